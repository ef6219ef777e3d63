use Rattle.std.proofs.Common.{◌≡◌, ℕ, ◌+◌, ◌-◌, ◌*◌, ◌<◌, ◌≤◌, sum, length, get_or, sym, refl, ap, ◌∙◌, subst, arith, rules}
use Rattle.std.specs.Option.{option_map}
use Rattle.lending.specs.Sound.{securities, account_places, offer_places, top_fee, top_elevens, SoundAccounts, SoundOffers}
use Rattle.lending.specs.Measures.{top_units}
use Rattle.lending.specs.Lending.{at, need_of, lent, charged}
use Rattle.lending.specs.Eleven.{earned_in, short_in, own_given, accounts_after, offers_after}
use Rattle.lending.proofs.Ahead.{offered_all}
use Rattle.lending.proofs.Fees.{units_below_most}
use Rattle.lending.proofs.Tallies.{sum_is, sum_most}
use Rattle.lending.proofs.Totals.{gives_most, gives_alike, pays_alike, earned_is, earned_most, short_is}
use Rattle.lending.proofs.After.{accounts_are, offers_are, accounts_sound, offers_sound}
use Rattle.lending.proofs.clock.eleven.Goals as goal

pub lend-earned-requires : goal.lend-earned-requires
lend-earned-requires c =
    let os = c.args.offers.now in
    record {
      units = λ k. omega (arith, c.given-given.ensures.units k, gives_most os (λ s. get_or c.needs-needs.result s 0) k top_elevens (at os k) refl (c.requires.lenders k));
      sound = c.requires.lenders;
    }

pub charge-requires : goal.charge-requires
charge-requires c =
    let xs = c.args.accounts.now in
    let os = c.args.offers.now in
    record {
      need = c.needs-needs.ensures;
      most = λ s. omega (
        arith,
        c.needs-needs.ensures s,
        c.lend-earned.ensures.earned s,
        earned_is xs os (λ k. get_or c.given-given.result k 0) (λ k. c.given-given.ensures.units k ∙ gives_alike os (λ s. get_or c.needs-needs.result s 0) (need_of xs) c.needs-needs.ensures k (at os k)) s,
        earned_most xs os top_elevens c.requires.lenders s,
      );
      sound = c.requires.loans;
    }

pub sum-requires-clause-fits : goal.sum-requires-clause-fits
sum-requires-clause-fits c =
    let long : length c.lend-earned.result ≡ 8 = search rules in
    let most : sum c.lend-earned.result < 18446744073709551616 = omega (arith, sum_most (offer_places * top_fee) c.lend-earned.result c.lend-earned.ensures.most) in
    search rules

pub sum-requires-2-clause-fits : goal.sum-requires-2-clause-fits
sum-requires-2-clause-fits c =
    let xs = c.args.accounts.now in
    let left = c.given-given.new.left in
    let room : (s : ℕ) → get_or left s 0 ≤ account_places * top_units =
    λ s. omega (arith, c.given-given.ensures.left s, c.needs-needs.ensures s, units_below_most top_elevens xs c.requires.loans s (length xs)) in
    let long : length left ≡ 8 = search rules in
    let most : sum left < 18446744073709551616 = omega (arith, sum_most (account_places * top_units) left room) in
    search rules

pub returns : goal.returns
returns c =
    let xs = c.args.accounts.now in
    let os = c.args.offers.now in
    let needs = c.needs-needs.ensures in
    let own : (k : ℕ) → get_or c.given-given.result k 0 ≡ own_given xs os k =
    λ k. c.given-given.ensures.units k ∙ gives_alike os (λ s. get_or c.needs-needs.result s 0) (need_of xs) needs k (at os k) in
    let earned : (s : ℕ) → get_or c.lend-earned.result s 0 ≡ earned_in xs os s =
    λ s. c.lend-earned.ensures.earned s ∙ earned_is xs os (λ k. get_or c.given-given.result k 0) own s in
    let left : (s : ℕ) → get_or c.given-given.new.left s 0 ≡ short_in xs os s =
    λ s. c.given-given.ensures.left s ∙ ap (λ q. q - offered_all os s) (needs s) ∙ short_is xs os s in
    let accounts : c.charge.new.accounts ≡ accounts_after xs os =
    accounts_are xs os c.charge.new.accounts (omega arith)
    (λ k. c.charge.ensures k ∙ ap (λ n. option_map (λ a. charged a n) (at xs k)) (pays_alike xs (λ s. get_or c.lend-earned.result s 0) (earned_in xs os) earned k (at xs k))) in
    let offers : c.lend-earned.new.offers ≡ offers_after xs os =
    offers_are xs os c.lend-earned.new.offers (omega arith) (λ k. c.lend-earned.ensures.after k ∙ ap (λ n. option_map (λ o. lent o n) (at os k)) (own k)) in
    record {
      fees = sum_is securities c.sum.result c.lend-earned.result (earned_in xs os) (search rules) (search rules) earned;
      vouchers = sum_is securities c.sum-2.result c.given-given.new.left (short_in xs os) (search rules) (search rules) left;
      accounts = accounts;
      offers = offers;
      loans = λ elevens hx ho. subst (SoundAccounts (elevens + 1)) (sym accounts) (accounts_sound xs os elevens hx ho);
      lenders = λ elevens hx ho. subst (SoundOffers (elevens + 1)) (sym offers) (offers_sound xs os elevens ho);
    }
