-- Words for the steps of the lending: the order of the offers, and one place of a table.
use Rattle.std.specs.Prelude.{◌≡◌, ℕ, ◌+◌, ◌-◌, ◌<◌, ◌≤◌, min, Bool, false, cond, List, length, Some, None, Option, ◌==◌, slice_index, slice_index_or}
use Rattle.sums.specs.Below.{below}
use Rattle.lending.specs.declared.account.Account.{Account}
use Rattle.lending.specs.declared.offer.Offer.{Offer}
use Rattle.lending.specs.declared.order.Rank.{Rank}
use Rattle.lending.specs.Lending.{at, rate_of, sooner, earns, share}

-- the rank of place k
abbrev pub rank_at : List (Option Offer) → ℕ → Rank
rank_at offers k = record { rate = rate_of (at offers k); place = k }

-- rank a comes before rank b
abbrev pub earlier : Rank → Rank → Bool
earlier a b = sooner a.rate a.place b.rate b.place

-- no rank comes before this
abbrev pub lowest_rank : Rank
lowest_rank = record { rate = 0; place = 0 }

-- the rank that comes at j
abbrev pub nth : List Rank → ℕ → Rank
nth ranks j = slice_index_or ranks j lowest_rank

-- the place whose rank comes at j
abbrev pub place_at : List Rank → ℕ → ℕ
place_at ranks j = (nth ranks j).place

-- the ranks of all places, in rising order: whatever is summed over them is summed over the places
pub record Ordered (offers : List (Option Offer)) (ranks : List Rank) : Type 0 where
  pub long : length ranks ≡ length offers
  pub rising : (i j : ℕ) → i ≤ j → j < length ranks → earlier (nth ranks j) (nth ranks i) ≡ false
  pub same : (f : Rank → ℕ) → below (length offers) (λ j. f (nth ranks j)) ≡ below (length offers) (λ k. f (rank_at offers k))

-- what an offer takes of what is left of its security's need
abbrev pub takes : List ℕ → Option Offer → ℕ
takes left None = 0
takes left (Some o) = min o.units (slice_index left o.security)

-- what k units of a place earn, if its offer is of security s
abbrev pub earns_in : ℕ → Option Offer → ℕ → ℕ
earns_in s None k = 0
earns_in s (Some o) k = cond (o.security == s) (earns (Some o) k) 0

-- what an account pays, once the accounts before it had `earlier` units of each security
abbrev pub pays : List ℕ → List ℕ → List ℕ → Option Account → ℕ
pays fees needs earlier None = 0
pays fees needs earlier (Some a) =
    share (slice_index fees a.security) (slice_index earlier a.security + (a.owed + a.applied)) (slice_index needs a.security)
    - share (slice_index fees a.security) (slice_index earlier a.security) (slice_index needs a.security)
