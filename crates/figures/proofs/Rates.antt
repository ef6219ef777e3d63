-- Which rate stands at a price of 5,000.
use Rattle.std.proofs.Common.{◌≡◌, ℕ, Some, None, ap, arith}
use Rattle.std.proofs.lemmas.Bool.Decides.{nat_tests}
use Rattle.table.specs.declared.refusal.Refusal.TheVariants.{RateTooHigh}
use Rattle.table.specs.declared.table.Table.{Table}
use Rattle.table.specs.Tables.{taken}
use Rattle.table.specs.Offers.{offer_act}
use Rattle.figures.specs.Books.{Offerable}

pub stands : (t : Table) (place security units commission : ℕ) → Offerable t place security units commission →
    (offer_act place security units 350 commission).cause t ≡ None
stands t place security units commission o = let e = ap taken o.place_empty in grind (arith, nat_tests)

pub refused : (t : Table) (place security units commission : ℕ) → Offerable t place security units commission →
    (offer_act place security units 351 commission).cause t ≡ Some RateTooHigh
refused t place security units commission o = let e = ap taken o.place_empty in grind (arith, nat_tests)
