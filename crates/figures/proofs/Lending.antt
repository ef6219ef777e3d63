-- What two offers earn from a need of ten.
use Rattle.std.proofs.Common.{◌≡◌, ℕ, List, length, Option, ap}
use Rattle.sums.specs.Below.{below}
use Rattle.lending.specs.declared.account.Account.{Account}
use Rattle.lending.specs.Lending.{at, need_of, gives, earns as earns-of}
use Rattle.lending.specs.Eleven.{earned_in}
use Rattle.figures.specs.Lendings.{two_offers}

pub earns : (accounts : List (Option Account)) → need_of accounts 0 ≡ 10 → earned_in accounts two_offers 0 ≡ 260000
earns accounts need = ap (λ (q : ℕ). below (length two_offers) (λ k. earns-of (at two_offers k) (gives two_offers 0 q k))) need
