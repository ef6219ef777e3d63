-- Sorted ranks are in order.
use Rattle.std.proofs.Common.{◌≡◌, ◌+◌, List, map, length, get_or, Option, Ordering, sym, ap, ◌∙◌, arith}
use Rattle.std.proofs.lemmas.List.FromFn.{length-map-range_with_len, get_or-map-range_with_len}
use Rattle.std.proofs.lemmas.List.Sorted.{sum_by-IsPermutation, sorted_far}
use Rattle.std.proofs.lemmas.Bool.Decides.{nat_tests}
use Rattle.std.specs.List.{range_with_len}
use Rattle.std.specs.Ordering.{is_lt, nat_cmp, ordering_then}
use Rattle.std.specs.List.Sorted.{IsPermutation, IsSortedWithin}
use Rattle.std.specs.Cmp.{IsStrictWeakOrder}
use Rattle.sums.specs.Below.{below}
use Rattle.sums.proofs.Sums.{below_same}
use Rattle.lending.proofs.Tallies.{sum_all}
use Rattle.lending.specs.declared.offer.Offer.{Offer}
use Rattle.lending.specs.declared.order.Rank.{Rank}
use Rattle.lending.specs.Steps.{rank_at, earlier, lowest_rank, nth, Ordered}

-- the order that ranks derive
abbrev pub by_rate_and_place : Rank → Rank → Ordering
by_rate_and_place a b = ordering_then (nat_cmp a.rate b.rate) (nat_cmp a.place b.place)

-- it puts the earlier rank first
less_earlier : (a b : Rank) → is_lt (by_rate_and_place a b) ≡ earlier a b
less_earlier a b = grind (arith, nat_tests)

-- any two ranks compare
earlier_ranks : IsStrictWeakOrder earlier
earlier_ranks = record { one_way = λ a b h. grind (arith, nat_tests); chain = λ a b c h k. grind (arith, nat_tests) }

pub sorted : (os : List (Option Offer)) (ranks after : List Rank) → ranks ≡ map (rank_at os) (range_with_len 0 (length os)) →
    IsPermutation ranks after → length after ≡ length ranks → IsSortedWithin (λ a b. is_lt (by_rate_and_place a b)) after 0 (length after) → Ordered os after
sorted os ranks after made same long up = record {
  long = size;
  rising = λ i j l m. sorted_far earlier earlier_ranks after (λ k d l m. sym (less_earlier (get_or after (k + 1) d) (get_or after k d)) ∙ up k d l (omega arith)) i j lowest_rank l m;
  same = λ f.
      ap (λ n. below n (λ j. f (nth after j))) (sym size)
      ∙ sum_all f lowest_rank after ∙ sum_by-IsPermutation f ranks after same ∙ sym (sum_all f lowest_rank ranks)
      ∙ ap (λ n. below n (λ j. f (nth ranks j))) ranks_size
      ∙ below_same (length os) (λ j. f (nth ranks j)) (λ k. f (rank_at os k))
      (λ k l. ap f (ap (λ xs. nth xs k) made ∙ get_or-map-range_with_len (rank_at os) 0 (length os) k k lowest_rank l (omega arith)));
}
  where
    ranks_size : length ranks ≡ length os
    ranks_size = ap length made ∙ length-map-range_with_len (rank_at os) 0 (length os)

    size : length after ≡ length os
    size = long ∙ ranks_size
