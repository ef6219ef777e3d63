-- What an examination answers and leaves.
use Rattle.std.specs.Prelude.{◌≡◌, ℕ, Some, None, Ok, Err, Result}
use Rattle.table.specs.declared.refusal.Refusal.{Refusal}
use Rattle.table.specs.declared.table.Table.{Table}
use Rattle.table.specs.Act.{first}
use Rattle.margin.specs.Backing.{Backing}
use Rattle.margin.specs.Margins.{Lacks, cover_at, target_at}
use Rattle.margin.specs.Notices.{examine_causes, examined}
use Rattle.book.specs.declared.examined.Examined.{Examined}
use Rattle.book.specs.declared.examined.Examined.TheVariants.{Met, Short}

-- met: cover is at the target or above, and the notice is closed.
-- short: cover is below the target, by the cents that are told; the slip is the account's, and holds the notice.
-- refused: for the first cause, and nothing is changed.
abbrev pub Examination : Backing → ℕ → Table → Table → Result Examined Refusal → Type 0
Examination b account before after (Ok Met) =
    (first (examine_causes b.first_places b.second_places account before) ≡ None)
    × Lacks (target_at before account) (cover_at b before account) None
    × (after ≡ examined before account None)
Examination b account before after (Ok (Short lack slip)) =
    (first (examine_causes b.first_places b.second_places account before) ≡ None)
    × Lacks (target_at before account) (cover_at b before account) (Some lack)
    × (slip.account ≡ account)
    × (after ≡ examined before account (Some lack))
Examination b account before after (Err e) =
    (first (examine_causes b.first_places b.second_places account before) ≡ Some e) × (after ≡ before)
