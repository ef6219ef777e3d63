-- What holds of every account and offer, after so many elevens: the bounds that keep every sum within its type.
use Rattle.std.specs.Prelude.{◌≡◌, ℕ, ◌+◌, ◌*◌, ◌<◌, ◌≤◌, Bool, cond, List, ℤ, pos, neg_ℤ, ◌≤ℤ◌, Some, None, Option, slice_index_or}
use Rattle.lending.specs.declared.account.Account.{Account}
use Rattle.lending.specs.declared.offer.Offer.{Offer}
use Rattle.lending.specs.Measures.{shares, top_units}

-- securities are numbered 0 to 7
abbrev pub securities : ℕ
securities = 8

-- the places of the table of accounts
abbrev pub account_places : ℕ
account_places = 64

-- the places of the table of offers
abbrev pub offer_places : ℕ
offer_places = 256

-- the highest rate, in cents for each share and day
abbrev pub top_rate : ℕ
top_rate = 70000

-- the highest commission, in per cent
abbrev pub top_commission : ℕ
top_commission = 10

-- the most that one offer earns, and that one account pays, at one eleven
abbrev pub top_fee : ℕ
top_fee = shares * top_units * top_rate

-- the highest share price of a buy in, in cents
abbrev pub top_share_price : ℕ
top_share_price = 2000000

-- the most cents of its charges
abbrev pub top_charges : ℕ
top_charges = 1000000000

-- the most that one buy in costs: a thousand units at 2,000,000 cents a share, and charges of 1,000,000,000
abbrev pub top_cost : ℕ
top_cost = shares * top_units * 2000000 + 1000000000

-- the highest balance
abbrev pub top_balance : ℕ
top_balance = 1000000000000000

-- how low a balance can be: an account pays fees at every eleven until it is bought in, once
abbrev pub lowest : ℕ → Bool → ℤ
lowest elevens barred = neg_ℤ (pos (elevens * top_fee + cond barred top_cost 0))

-- the loan of an account; a barred one has no units
abbrev pub SoundLoan : Account → Type 0
SoundLoan a = (a.security < securities) × (a.owed + a.applied ≤ top_units) × (cond a.barred (a.owed + a.applied) 0 ≤ 0)

abbrev pub SoundBalance : ℕ → Account → Type 0
SoundBalance elevens a = (lowest elevens a.barred ≤ℤ a.balance) × (a.balance ≤ℤ pos top_balance)

abbrev pub SoundAccount : ℕ → Account → Type 0
SoundAccount elevens a = SoundLoan a × SoundBalance elevens a

-- the terms of an offer
abbrev pub SoundTerms : Offer → Type 0
SoundTerms o = (o.security < securities) × (o.units ≤ top_units) × (o.rate ≤ top_rate) × (o.commission ≤ top_commission)

abbrev pub SoundEarnings : ℕ → Offer → Type 0
SoundEarnings elevens o = o.lender + o.broker ≤ elevens * top_fee

abbrev pub SoundOffer : ℕ → Offer → Type 0
SoundOffer elevens o = SoundTerms o × SoundEarnings elevens o

-- the most elevens that a book sees, with one on each day
abbrev pub top_elevens : ℕ
top_elevens = 60000

-- every account that stands in a table is sound
abbrev pub SoundAccounts : ℕ → List (Option Account) → Type 0
SoundAccounts elevens accounts = (k : ℕ) (a : Account) → slice_index_or accounts k None ≡ Some a → SoundAccount elevens a

-- every offer that stands in a table is sound
abbrev pub SoundOffers : ℕ → List (Option Offer) → Type 0
SoundOffers elevens offers = (k : ℕ) (o : Offer) → slice_index_or offers k None ≡ Some o → SoundOffer elevens o
