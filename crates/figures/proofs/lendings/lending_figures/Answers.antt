use Rattle.std.proofs.Common.{refl}
use Rattle.figures.proofs.Lending.{earns}
use Rattle.figures.proofs.lendings.lending_figures.Goals as goal

pub returns : goal.returns
returns c = record {
  all_earn = earns;
  first_gives = refl;
  lender_earns = refl;
  broker_earns = refl;
  first_pays = refl;
  second_pays = refl;
  third_pays = refl;
}
