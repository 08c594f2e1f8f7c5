use Rattle.std.proofs.Common.{List, nat_cmp, ap, subst, ◌∙◌, ◌++◌, rules}
use Rattle.std.specs.List.Sorted.{IsPermutation, IsStableByKey}
use Rattle.std.proofs.lemmas.Fn.{always_returns_same}
use Rattle.cfgfindings.specs.Shown.{ShownFinding, offset_of}
use Rattle.cfgfindings.proofs.found.findings.Goals as goal

pub returns : goal.returns
returns c =
    let (reported, in_turn, added) = c.in_ok-push_findings.ensures in
    let is = added ∙ ap (λ l. l ++ reported) c.new-all.ensures.items in
    let after = c.sort_by_key.new.self.items in
    record {
      reported = reported;
      in_turn = in_turn;
      by_offset = record {
        same = subst (λ (l : List ShownFinding). IsPermutation l after) is c.in_ok-sort_by_key.ensures.permutation;
        sorted = c.in_ok-sort_by_key.ensures.sorted offset_of (always_returns_same _ _ _ (λ a r f called. search rules));
        stable = subst (λ (l : List ShownFinding). IsStableByKey offset_of nat_cmp l after) is
            (c.in_ok-sort_by_key.ensures.stable offset_of (always_returns_same _ _ _ (λ a r f called. search rules)));
      };
    }
