use Rattle.std.proofs.Common.{◌≡◌, ℕ, List, sym, ◌∙◌}
use Rattle.std.specs.List.{list_any}
use Rattle.std.specs.Str.{bytes_eq}
use Rattle.std.proofs.lemmas.Bool.Decides.{same_from_decides}
use Rattle.std.proofs.lemmas.Slice.Eq.{bytes_eq-Decides}
use Rattle.cfgrammar.proofs.Tests.{list_any-map}
use Rattle.text_findings.proofs.keys.is_among.Goals as goal

-- two texts are the same in either order
turned : (name word : List ℕ) → bytes_eq name word ≡ bytes_eq word name
turned name word = let same = bytes_eq-Decides word name in same_from_decides _ _ (bytes_eq-Decides name word) (λ e. sym (same.0 e), λ e. same.1 (sym e))

pub returns : goal.returns
returns c =
    let word = c.args.word.now in
    c.contains.ensures.value
    ∙ (λ i. list_any (λ name. turned name.now word i) c.args.names.now)
    ∙ sym (list_any-map (bytes_eq word) (λ name. name.now) c.args.names.now)
