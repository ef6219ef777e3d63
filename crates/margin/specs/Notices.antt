-- Notices: given at ten, examined, and left open.
use Rattle.std.specs.Prelude.{◌≡◌, ℕ, ◌<◌, Bool, true, false, not, ◌||◌, List, [], ◌∷◌, ℤ, Some, None, Option, count_ones, nat_le}
use Rattle.bits.specs.Bit.{bit, with_bit, without_bit, word_below}
use Rattle.lending.specs.declared.account.Account.{Account}
use Rattle.lending.specs.Sound.{SoundAccount, account_places}
use Rattle.shelf.specs.Limits.{shelf_places}
use Rattle.table.specs.declared.hour.Hour.TheVariants.{Morning, Calling}
use Rattle.table.specs.declared.refusal.Refusal.{Refusal}
use Rattle.table.specs.declared.refusal.Refusal.TheVariants.{NoSuchPlace, WrongHour, PlaceEmpty, NoNotice}
use Rattle.table.specs.declared.table.Table.{Table}
use Rattle.table.specs.Act.{Act, first}
use Rattle.table.specs.Tables.{account_at, elevens, morning, calling, taken}
use Rattle.margin.specs.Backing.{Backing, cut}
use Rattle.margin.specs.Margins.{short}

abbrev pub with_notices : Table → ℕ → Table
with_notices t word = record { day = t.day; hour = t.hour; prices = t.prices; accounts = t.accounts; offers = t.offers; notices = word; slips = t.slips }

abbrev pub with_slips : Table → ℕ → Table
with_slips t word = record { day = t.day; hour = t.hour; prices = t.prices; accounts = t.accounts; offers = t.offers; notices = t.notices; slips = word }

-- the calling hour begins, with these notices
abbrev pub called : Table → ℕ → Table
called t word = record { day = t.day; hour = Calling; prices = t.prices; accounts = t.accounts; offers = t.offers; notices = word; slips = t.slips }

-- the word of the accounts that are short, where the pledges of each cover so much
abbrev pub short_among : Table → (ℕ → ℕ) → ℕ
short_among t covers = word_below (λ place. short t (account_at t place) (covers place)) account_places

-- the same with what they cover today
abbrev pub short_word : Backing → Table → ℕ
short_word b t = short_among t (λ place. b.covers place t.day)

abbrev pub ten_causes : ℕ → ℕ → Table → List (Bool × Refusal)
ten_causes first_places second_places t =
    (cut first_places second_places, NoSuchPlace)
    ∷ (not (morning t.hour), WrongHour)
    ∷ []

-- ten: the calling hour begins, and every account that is short has a notice
abbrev pub ten_act : Backing → Act Table ℕ
ten_act b = record {
  cause = λ t. first (ten_causes b.first_places b.second_places t);
  value = λ t. count_ones (short_word b t);
  done = λ t. called t (short_word b t);
}

-- what is known where ten is not refused
pub record Callable (t : Table) (first_places second_places : ℕ) : Type 0 where
  pub first_whole : first_places ≡ shelf_places
  pub second_whole : second_places ≡ shelf_places
  pub in_morning : t.hour ≡ Morning

abbrev pub examine_causes : ℕ → ℕ → ℕ → Table → List (Bool × Refusal)
examine_causes first_places second_places account t =
    (cut first_places second_places || nat_le account_places account, NoSuchPlace)
    ∷ (not (calling t.hour), WrongHour)
    ∷ (not (taken (account_at t account)), PlaceEmpty)
    ∷ (not (bit t.notices account) || bit t.slips account, NoNotice)
    ∷ []

-- an account at a place, with an open notice that no slip holds
pub record Examinable (t : Table) (place : ℕ) (a : Account) : Type 0 where
  pub sound : SoundAccount (elevens t) a
  pub known : place < account_places
  pub is : account_at t place ≡ Some a
  pub noticed : bit t.notices place ≡ true
  pub free : bit t.slips place ≡ false

-- the table after an examination: the notice is closed where nothing lacks, and else a slip is out for the account
abbrev pub examined : Table → ℕ → Option ℤ → Table
examined t place None = with_notices t (without_bit t.notices place)
examined t place (Some lack) = with_slips t (with_bit t.slips place)

abbrev pub wait_causes : ℕ → Table → List (Bool × Refusal)
wait_causes account t =
    (not (bit t.slips account), NoNotice)
    ∷ []

-- wait: the account's slip is out no more, and its notice stays open
abbrev pub wait_act : ℕ → Act Table (Unit {0})
wait_act account = record {
  cause = λ t. first (wait_causes account t);
  value = λ t. tt;
  done = λ t. with_slips t (without_bit t.slips account);
}
