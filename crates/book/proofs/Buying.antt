-- A buy in that is not refused.
use Rattle.std.proofs.Common.{◌≡◌, ℕ, ◌+◌, ◌-◌, length, ℤ, sym, ap, ◌∙◌, subst}
use Rattle.pledge.specs.Numbers.{Numbers}
use Rattle.draw.specs.Draws.{DrawTold, drawn, yielded}
use Rattle.table.specs.declared.table.Table.{Table}
use Rattle.table.specs.Accounts.{balance_of, owed_of}
use Rattle.table.specs.Tables.{account_at}
use Rattle.margin.specs.declared.execution.Execution.{Execution}
use Rattle.margin.specs.declared.purchase.Purchase.{Purchase}
use Rattle.margin.specs.BuyIns.{Purchasable, bought_in, cost_of, passes, settled}
use Rattle.book.specs.Shelves.{Shelves, both}
use Rattle.book.specs.States.{state}
use Rattle.book.specs.BuyIns.{BothDrawn, DrawnByRules, all_yields, buy_in_act, cost_in, first_ask}

module _ {P Q : Type 0} (n : Numbers P) (m : Numbers Q) (t : Table) (s after : Shelves P Q) (k : ℕ) (e : Execution) (p : Purchase) (y : ℕ)
    (found : Purchasable t (length s.first) (length s.second) k e p)
    (drew : BothDrawn n m k t.day p.lack p.block_price.cents s after y) where
  owes : owed_of (account_at t k) ≡ p.account.owed
  owes = ap owed_of found.is

  has : balance_of (account_at t k) ≡ p.account.balance
  has = ap balance_of found.is

  cost_same : p.cost ≡ cost_in n m k e (state t s)
  cost_same = found.cost_is ∙ ap (λ (o : ℕ). cost_of o e) (sym owes)

  ask_same : p.lack ≡ first_ask n m k e (state t s)
  ask_same = found.lack_is ∙ ap (λ (z : ℤ). passes z p.cost) (sym has) ∙ ap (passes (balance_of (account_at t k))) cost_same

  -- an ask and a price that are the same by other words
  yields_of : ℕ → ℕ → ℕ
  yields_of a q = yielded n s.first k a t.day q + yielded m s.second k (a - yielded n s.first k a t.day q) t.day q

  shelves_of : ℕ → ℕ → Shelves P Q
  shelves_of a q = both (drawn n s.first k a t.day q) (drawn m s.second k (a - yielded n s.first k a t.day q) t.day q)

  yields_same : y ≡ all_yields n m k e (state t s)
  unfolding yields_of
  yields_same = drew.yields_is ∙ ap (λ (a : ℕ). yields_of a p.block_price.cents) ask_same ∙ ap (yields_of (first_ask n m k e (state t s))) found.priced

  shelves_same : after ≡ ((buy_in_act n m k e).done (state t s)).shelves
  unfolding shelves_of
  shelves_same = drew.after_is ∙ ap (λ (a : ℕ). shelves_of a p.block_price.cents) ask_same ∙ ap (shelves_of (first_ask n m k e (state t s))) found.priced

  pub value_same : (z : ℤ) → z ≡ settled p.account.balance p.cost y → (p.account.owed, z) ≡ (buy_in_act n m k e).value (state t s)
  value_same z told =
      ap (λ (x : ℤ). (p.account.owed, x)) (told ∙ ap (λ (x : ℤ). settled x p.cost y) (sym has) ∙ ap (λ (c : ℕ). settled (balance_of (account_at t k)) c y) cost_same ∙ ap (settled (balance_of (account_at t k)) (cost_in n m k e (state t s))) yields_same)
      ∙ ap (λ (o : ℕ). (o, settled (balance_of (account_at t k)) (cost_in n m k e (state t s)) (all_yields n m k e (state t s)))) (sym owes)

  pub done_same : (u : Table) → u ≡ bought_in k p.cost y t → state u after ≡ (buy_in_act n m k e).done (state t s)
  done_same u is =
      ap (λ (x : Table). state x after) (is ∙ ap (λ (c : ℕ). bought_in k c y t) cost_same ∙ ap (λ (x : ℕ). bought_in k (cost_in n m k e (state t s)) x t) yields_same)
      ∙ ap (state (bought_in k (cost_in n m k e (state t s)) (all_yields n m k e (state t s)) t)) shelves_same

  pub drawn_by_rules : DrawnByRules n m k e (state t s)
  drawn_by_rules = record {
    on_first = subst (λ (q : ℕ). DrawTold n s.first k (first_ask n m k e (state t s)) t.day q) found.priced (subst (λ (a : ℕ). DrawTold n s.first k a t.day p.block_price.cents) ask_same drew.on_first);
    on_second =
        subst (λ (q : ℕ). DrawTold m s.second k (first_ask n m k e (state t s) - yielded n s.first k (first_ask n m k e (state t s)) t.day q) t.day q) found.priced
        (subst (λ (a : ℕ). DrawTold m s.second k (a - yielded n s.first k a t.day p.block_price.cents) t.day p.block_price.cents) ask_same drew.on_second);
  }
