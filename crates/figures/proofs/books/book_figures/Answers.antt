use Rattle.std.proofs.Common.{refl, rules}
use Rattle.figures.proofs.Rates.{stands, refused}
use Rattle.figures.proofs.books.book_figures.Goals as goal

pub returns : goal.returns
returns c = record {
  figures = search rules;
  rules = record {
    floor = λ t a pledged o p e. rw (o, p, e);
    target = λ t a pledged o p e. rw (o, p, e);
    rate_stands = stands;
    rate_refused = refused;
    refused_by = refl;
  };
}
