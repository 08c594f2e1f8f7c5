use Rattle.std.proofs.Common.{◌≡◌, nat_eq, rules}
use Rattle.std.proofs.lemmas.Bool.Decides.{Decides-at}
use Rattle.cfgmarks.specs.Marks.{marks}
use Rattle.cfgmarks.specs.MarkSame.{same_marks}
use Rattle.cfgmarks.proofs.MarkIdentity.{same_marks_decides}
use Rattle.cfgmarks.proofs.markmap.MarkMapPartialEq.eq.Goals as goal

pub returns-then-eq-clause-same : goal.returns-then-eq-clause-same
returns-then-eq-clause-same g c keys values =
    let value : nat_eq c.behavior_word.result c.behavior_word-then-eq.result ≡ same_marks g.K.PartialEq.eq g.V.PartialEq.eq (marks c.args.self.now) (marks c.args.other.now) = search rules in
    Decides-at _ _ value (same_marks_decides g.K.PartialEq.eq g.V.PartialEq.eq keys values (marks c.args.self.now) (marks c.args.other.now))

pub returns-else-eq-clause-same : goal.returns-else-eq-clause-same
returns-else-eq-clause-same g c keys values =
    let value : c.eq.result ≡ same_marks g.K.PartialEq.eq g.V.PartialEq.eq (marks c.args.self.now) (marks c.args.other.now) = search rules in
    Decides-at _ _ value (same_marks_decides g.K.PartialEq.eq g.V.PartialEq.eq keys values (marks c.args.self.now) (marks c.args.other.now))
