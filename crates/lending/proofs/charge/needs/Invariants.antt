use Rattle.std.proofs.Common.{◌≡◌, ℕ, get_or}
use Rattle.lending.specs.Lending.{units_below}
use Rattle.lending.proofs.charge.needs.Given as goal

abbrev pub invariant-loop-account : goal.invariant-loop-account
invariant-loop-account l = (s : ℕ) → get_or l.needs s 0 ≡ units_below l.accounts s l.account-index
