-- The call eleven, over all securities: its answers, and the tables after it.
use Rattle.std.specs.Prelude.{ℕ, ◌-◌, List, map, length, Some, None, Option}
use Rattle.std.specs.List.{range_with_len}
use Rattle.std.specs.Option.{option_map}
use Rattle.sums.specs.Below.{below}
use Rattle.lending.specs.declared.account.Account.{Account}
use Rattle.lending.specs.declared.offer.Offer.{Offer}
use Rattle.lending.specs.Sound.{securities}
use Rattle.lending.specs.Lending.{at, need_of, gives, earns, lent, fee_at, charged}

-- the units that the offers of security s give
abbrev pub given_in : List (Option Account) → List (Option Offer) → ℕ → ℕ
given_in accounts offers s = below (length offers) (gives offers s (need_of accounts s))

-- what the offers of security s earn
abbrev pub earned_in : List (Option Account) → List (Option Offer) → ℕ → ℕ
earned_in accounts offers s = below (length offers) (λ k. earns (at offers k) (gives offers s (need_of accounts s) k))

-- the units of security s that no offer gives: they go by voucher
abbrev pub short_in : List (Option Account) → List (Option Offer) → ℕ → ℕ
short_in accounts offers s = need_of accounts s - given_in accounts offers s

-- what the offer of place k gives to the need of its security
abbrev pub gives_at : List (Option Offer) → (ℕ → ℕ) → ℕ → Option Offer → ℕ
gives_at offers need k None = 0
gives_at offers need k (Some o) = gives offers o.security (need o.security) k

-- what place k gives at eleven
abbrev pub own_given : List (Option Account) → List (Option Offer) → ℕ → ℕ
own_given accounts offers k = gives_at offers (need_of accounts) k (at offers k)

-- what place k earns at eleven
abbrev pub own_earned : List (Option Account) → List (Option Offer) → ℕ → ℕ
own_earned accounts offers k = earns (at offers k) (own_given accounts offers k)

-- what the account of place k pays of what its security's offers earned
abbrev pub pays_at : List (Option Account) → (ℕ → ℕ) → ℕ → Option Account → ℕ
pays_at accounts earned k None = 0
pays_at accounts earned k (Some a) = fee_at accounts a.security (earned a.security) k

-- what place k pays at eleven
abbrev pub own_fee : List (Option Account) → List (Option Offer) → ℕ → ℕ
own_fee accounts offers k = pays_at accounts (earned_in accounts offers) k (at accounts k)

-- the first answer: all that the offers earn, which the accounts pay
abbrev pub all_fees : List (Option Account) → List (Option Offer) → ℕ
all_fees accounts offers = below securities (earned_in accounts offers)

-- the second answer: all units that go by voucher
abbrev pub all_vouchers : List (Option Account) → List (Option Offer) → ℕ
all_vouchers accounts offers = below securities (short_in accounts offers)

-- the account at place k after eleven
abbrev pub account_after : List (Option Account) → List (Option Offer) → ℕ → Option Account
account_after accounts offers k = option_map (λ a. charged a (own_fee accounts offers k)) (at accounts k)

-- the offer at place k after eleven
abbrev pub offer_after : List (Option Account) → List (Option Offer) → ℕ → Option Offer
offer_after accounts offers k = option_map (λ o. lent o (own_given accounts offers k)) (at offers k)

-- the accounts after eleven
unfoldable pub accounts_after : List (Option Account) → List (Option Offer) → List (Option Account)
accounts_after accounts offers = map (account_after accounts offers) (range_with_len 0 (length accounts))

-- the offers after eleven
unfoldable pub offers_after : List (Option Account) → List (Option Offer) → List (Option Offer)
offers_after accounts offers = map (offer_after accounts offers) (range_with_len 0 (length offers))
