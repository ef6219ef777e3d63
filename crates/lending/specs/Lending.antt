-- The lending of one security: its need, what its offers give and earn, and what its accounts pay.
use Rattle.std.specs.Prelude.{ℕ, suc, ◌+◌, ◌-◌, ◌*◌, ◌/◌, min, Bool, cond, ◌&&◌, ◌||◌, List, length, pos, ◌-ℤ◌, Some, None, Option, ◌==◌, nat_lt, slice_index_or}
use Rattle.sums.specs.Below.{below}
use Rattle.lending.specs.declared.account.Account.{Account}
use Rattle.lending.specs.declared.offer.Offer.{Offer}
use Rattle.lending.specs.Measures.{shares}

-- what stands at place k of a table
abbrev pub at : {X : Type 0} → List (Option X) → ℕ → Option X
at xs k = slice_index_or xs k None

-- the units that the account of a place owes and applies for, if it is of security s
abbrev pub units_in : ℕ → Option Account → ℕ
units_in s None = 0
units_in s (Some a) = cond (a.security == s) (a.owed + a.applied) 0

-- the units of the accounts of security s at the places below n
abbrev pub units_below : List (Option Account) → ℕ → ℕ → ℕ
units_below accounts s n = below n (λ k. units_in s (at accounts k))

-- the need of security s: the owed and applied units of all its accounts
abbrev pub need_of : List (Option Account) → ℕ → ℕ
need_of accounts s = units_below accounts s (length accounts)

-- the units that the offer of a place has, if it is of security s
abbrev pub offered_in : ℕ → Option Offer → ℕ
offered_in s None = 0
offered_in s (Some o) = cond (o.security == s) o.units 0

-- the rate of the offer of a place
abbrev pub rate_of : Option Offer → ℕ
rate_of None = 0
rate_of (Some o) = o.rate

-- rate e at place i comes before rate f at place j: the lower rate first, and then the lower place
abbrev pub sooner : ℕ → ℕ → ℕ → ℕ → Bool
sooner e i f j = nat_lt e f || (e == f && nat_lt i j)

-- the units that place k has in security s, if it comes before place i
abbrev pub before : List (Option Offer) → ℕ → ℕ → ℕ → ℕ
before offers s i k = cond (sooner (rate_of (at offers k)) k (rate_of (at offers i)) i) (offered_in s (at offers k)) 0

-- the units of security s that are offered ahead of place i
abbrev pub ahead_of : List (Option Offer) → ℕ → ℕ → ℕ
ahead_of offers s i = below (length offers) (before offers s i)

-- what place i gives to a need of q units of security s: what is left by those ahead of it, as far as it goes
abbrev pub gives : List (Option Offer) → ℕ → ℕ → ℕ → ℕ
gives offers s q i = min (offered_in s (at offers i)) (q - ahead_of offers s i)

-- a hundredth of what k units earn at a rate
abbrev pub hundredth : ℕ → ℕ → ℕ
hundredth k rate = shares / 100 * (k * rate)

-- what k units earn at the rate of a place
abbrev pub earns : Option Offer → ℕ → ℕ
earns place k = shares * (k * rate_of place)

-- an offer that gave k units: of what they earn, so many per cent as its commission are the broker's, and the rest the lender's
abbrev pub lent : Offer → ℕ → Offer
lent o k = record {
  security = o.security;
  units = o.units;
  rate = o.rate;
  commission = o.commission;
  lender = o.lender + hundredth k o.rate * (100 - o.commission);
  broker = o.broker + hundredth k o.rate * o.commission;
}

-- the part of the fees f that the first c of q units pay, rounded down
abbrev pub share : ℕ → ℕ → ℕ → ℕ
share f c q = cond (q == 0) 0 (f * c / q)

-- the fee of place k, where the accounts of security s pay f: the part of the units up to this place, less the part of those below it
abbrev pub fee_at : List (Option Account) → ℕ → ℕ → ℕ → ℕ
fee_at accounts s f k = share f (units_below accounts s (suc k)) (need_of accounts s) - share f (units_below accounts s k) (need_of accounts s)

-- an account that paid a fee: what it applied for is owed
abbrev pub charged : Account → ℕ → Account
charged a fee = record {
  firm = a.firm;
  security = a.security;
  owed = a.owed + a.applied;
  applied = 0;
  barred = a.barred;
  balance = a.balance -ℤ pos fee;
}
