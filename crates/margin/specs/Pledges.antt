-- Why a pledge is not taken onto a shelf, and why one is not handed back.
use Rattle.std.specs.Prelude.{◌≡◌, ℕ, ◌<◌, Bool, not, ◌&&◌, ◌||◌, List, [], ◌∷◌, ℤ, pos, Some, None, Ok, Err, Option, Result, int_lt, nat_le}
use Rattle.bits.specs.Bit.{bit}
use Rattle.lending.specs.declared.account.Account.{Account}
use Rattle.lending.specs.Sound.{SoundAccount, account_places}
use Rattle.shelf.specs.declared.lodging.Lodging.{Lodging}
use Rattle.shelf.specs.Limits.{shelf_places}
use Rattle.table.specs.declared.refusal.Refusal.{Refusal}
use Rattle.table.specs.declared.refusal.Refusal.TheVariants.{NoSuchPlace, WrongHour, PlaceTaken, PlaceEmpty, UnderSlip, BelowTarget, Expired}
use Rattle.table.specs.declared.table.Table.{Table}
use Rattle.table.specs.Tables.{account_at, blank, elevens, taken}
use Rattle.margin.specs.Backing.{cut}
use Rattle.margin.specs.declared.backed.Backed.{Backed}
use Rattle.margin.specs.Margins.{target_on}

-- a pledge with an expiry, for an account and a shelf place that is filled already or not, on shelves of so many places
abbrev pub pledge_causes : Table → ℕ → ℕ → ℕ → ℕ → Bool → ℕ → List (Bool × Refusal)
pledge_causes t first second account place filled expiry =
    (cut first second || nat_le account_places account || nat_le shelf_places place, NoSuchPlace)
    ∷ (blank t.hour, WrongHour)
    ∷ (filled, PlaceTaken)
    ∷ (not (taken (account_at t account)), PlaceEmpty)
    ∷ (bit t.slips account, UnderSlip)
    ∷ (nat_le expiry t.day, Expired)
    ∷ []

-- the account that is backed by what is lodged in a place, and the expiry; 0 where nothing is
abbrev pub backed : Option Lodging → ℕ
backed None = 0
backed (Some l) = l.account

abbrev pub expiry_in : Option Lodging → ℕ
expiry_in None = 0
expiry_in (Some l) = l.expiry

-- shelves are numbered 0 and 1
abbrev pub shelf_count : ℕ
shelf_count = 2

-- what is lodged in a place is not handed back, whatever would be left
abbrev pub release_causes : Table → ℕ → ℕ → ℕ → ℕ → Option Lodging → List (Bool × Refusal)
release_causes t first second shelf place l =
    (cut first second || nat_le shelf_count shelf || nat_le shelf_places place, NoSuchPlace)
    ∷ (blank t.hour, WrongHour)
    ∷ (not (taken l) || not (taken (account_at t (backed l))), PlaceEmpty)
    ∷ (bit t.slips (backed l), UnderSlip)
    ∷ []

-- it is not handed back up to and on its expiry day, where the cover that would be left to the account is below the target
abbrev pub target_causes : Table → Option Account → ℕ → ℤ → List (Bool × Refusal)
target_causes t o expiry cover =
    (nat_le t.day expiry && int_lt cover (pos (target_on t o)), BelowTarget)
    ∷ []

-- what is lodged and the account that it backs, or why it is not handed back
abbrev pub BackingFound : Option Refusal → Table → Option Lodging → Result Backed Refusal → Type 0
BackingFound cause t l (Ok b) = (cause ≡ None) × (l ≡ Some b.lodging) × (account_at t b.lodging.account ≡ Some b.account)
BackingFound cause t l (Err e) = cause ≡ Some e

-- what is known of it besides
pub record Releasable (t : Table) (first second shelf place : ℕ) (b : Backed) : Type 0 where
  pub first_whole : first ≡ shelf_places
  pub second_whole : second ≡ shelf_places
  pub shelf_known : shelf < shelf_count
  pub place_known : place < shelf_places
  pub sound : SoundAccount (elevens t) b.account

-- what is known of the account that a pledge is to back
pub record Pledgeable (t : Table) (first second place : ℕ) (a : Account) : Type 0 where
  pub first_whole : first ≡ shelf_places
  pub second_whole : second ≡ shelf_places
  pub place_known : place < shelf_places
  pub sound : SoundAccount (elevens t) a

-- what stands at a place is sound, and nothing stands past the last place
abbrev pub KnownSlot : ℕ → ℕ → Option Account → Type 0
KnownSlot elevens place None = Unit {0}
KnownSlot elevens place (Some a) = SoundAccount elevens a × (place < account_places)
