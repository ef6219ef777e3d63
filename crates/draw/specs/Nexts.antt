-- Whose turn is next: the first of an account's turns from one turn on.
use Rattle.std.specs.Prelude.{◌≡◌, ℕ, ◌<◌, true, false, cond, List, Some, None, Option, ◌==◌}
use Rattle.pledge.specs.Numbers.{Numbers}
use Rattle.shelf.specs.Places.{at}
use Rattle.shelf.specs.declared.held.Held.{Held}
use Rattle.draw.specs.Draws.{mine, expiry_at, turn_at, sooner}
use Rattle.draw.specs.declared.turn.Turn.{Turn}

-- Of the account's turns at places below `upto`, t is the first that does not come before `from`.
pub record First {P : Type 0} (n : Numbers P) (shelf : List (Option (Held P))) (account : ℕ) (from : Turn) (upto : ℕ) (t : Turn) : Type 0 where
  pub within : t.place < upto
  pub held : mine account (at shelf t.place) ≡ true
  pub expiry_is : t.expiry ≡ expiry_at n (at shelf t.place)
  pub after : sooner t from ≡ false
  pub first : (j : ℕ) → j < upto → mine account (at shelf j) ≡ true → sooner (turn_at n shelf j) from ≡ false →
      sooner (turn_at n shelf j) t ≡ false

-- None comes before it, or all of the account's turns come before `from`.
abbrev pub NextIs : {P : Type 0} → Numbers P → List (Option (Held P)) → ℕ → Turn → ℕ → Option Turn → Type 0
NextIs n shelf account from upto None =
    (j : ℕ) → j < upto → mine account (at shelf j) ≡ true → sooner (turn_at n shelf j) from ≡ true
NextIs n shelf account from upto (Some t) = First n shelf account from upto t

-- candidate n account from k place: the turn of the pledge at place k, if it is the account's and does not come before `from`
abbrev pub candidate : {P : Type 0} → Numbers P → ℕ → Turn → ℕ → Option (Held P) → Option Turn
candidate n account from k None = None
candidate n account from k (Some held) =
    let turn : Turn = record { expiry = n.expiry held.pledge; place = k } in
    cond (held.account == account) (cond (sooner turn from) None (Some turn)) None

-- nearer x y: of two turns the one that comes first
abbrev pub nearer : Option Turn → Option Turn → Option Turn
nearer None y = y
nearer (Some x) None = Some x
nearer (Some x) (Some y) = cond (sooner y x) (Some y) (Some x)
