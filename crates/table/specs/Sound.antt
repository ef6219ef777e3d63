-- What always holds of a book's table.
use Rattle.std.specs.Prelude.{◌≡◌, ℕ, ◌≤◌, true, false, length, Some, None, Option}
use Rattle.bits.specs.Bit.{bit}
use Rattle.lending.specs.declared.account.Account.{Account}
use Rattle.lending.specs.declared.offer.Offer.{Offer}
use Rattle.lending.specs.Measures.{top_price}
use Rattle.lending.specs.Sound.{SoundLoan, SoundBalance, SoundAccount, SoundTerms, SoundEarnings, SoundOffer, account_places, offer_places}
use Rattle.table.specs.declared.table.Table.{Table}
use Rattle.table.specs.Limits.{last_day}
use Rattle.table.specs.Tables.{account_at, offer_at, price_at, blank, calling, elevens, taken}

abbrev pub Dated : Table → Type 0
Dated t = t.day ≤ last_day

-- the days have begun, unless the book is blank
abbrev pub Begun : Table → Type 0
Begun t = blank t.hour ≡ false → 1 ≤ t.day

abbrev pub Sized : Table → Type 0
Sized t = (length t.accounts ≡ account_places) × (length t.offers ≡ offer_places)

abbrev pub PricesBounded : Table → Type 0
PricesBounded t = (security : ℕ) → price_at t security ≤ top_price

abbrev pub Loans : Table → Type 0
Loans t = (place : ℕ) (a : Account) → account_at t place ≡ Some a → SoundLoan a

abbrev pub Balances : Table → Type 0
Balances t = (place : ℕ) (a : Account) → account_at t place ≡ Some a → SoundBalance (elevens t) a

abbrev pub Terms : Table → Type 0
Terms t = (place : ℕ) (o : Offer) → offer_at t place ≡ Some o → SoundTerms o

abbrev pub Earnings : Table → Type 0
Earnings t = (place : ℕ) (o : Offer) → offer_at t place ≡ Some o → SoundEarnings (elevens t) o

-- a slip is out only where a notice is open
abbrev pub SlipsHeld : Table → Type 0
SlipsHeld t = (n : ℕ) → bit t.slips n ≡ true → bit t.notices n ≡ true

-- a notice is open only where there is an account
abbrev pub Noticed : Table → Type 0
Noticed t = (n : ℕ) → bit t.notices n ≡ true → taken (account_at t n) ≡ true

-- and only in the calling hour
abbrev pub Idle : Table → Type 0
Idle t = calling t.hour ≡ false → t.notices ≡ 0

pub record Sound (t : Table) : Type 0 where
  pub dated : Dated t
  pub sized : Sized t
  pub priced : PricesBounded t
  pub loans : Loans t
  pub balances : Balances t
  pub terms : Terms t
  pub earnings : Earnings t
  pub held : SlipsHeld t
  pub noticed : Noticed t
  pub idle : Idle t

-- the same of what stands at one place
abbrev pub SoundSlot : ℕ → Option Account → Type 0
SoundSlot elevens None = Unit {0}
SoundSlot elevens (Some a) = SoundAccount elevens a

abbrev pub SoundOfferSlot : ℕ → Option Offer → Type 0
SoundOfferSlot elevens None = Unit {0}
SoundOfferSlot elevens (Some o) = SoundOffer elevens o
