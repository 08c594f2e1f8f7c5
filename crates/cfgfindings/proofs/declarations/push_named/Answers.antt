use Rattle.std.proofs.Common.{◌≡◌, ◌+◌, ◌++◌, [], ◌∷◌, map, take, ap, sym, ◌∙◌, append_assoc, string_bytes}
use Rattle.std.proofs.lemmas.List.{map_push, take_more}
use Rattle.cfgrammar.specs.SyntaxView.{named_view}
use Rattle.cfgfindings.specs.Shown.{at_word, quoted}
use Rattle.cfgfindings.proofs.Texts.{after_quoted, shown_at}
use Rattle.cfgfindings.proofs.declarations.push_named.Goals as goal

pub loop-name-preserved : goal.loop-name-preserved
loop-name-preserved c =
    let named = c.args.named.now in
    let index = c.loop-name.name-index in
    let item = c.loop-name-item.result in
    let shown = at_word c.args.kind c.args.before.now c.args.after.now in
    let more : take (index + 1) named ≡ take index named ++ item ∷ [] =
    take_more named index item c.loop-name-test.true ∙ ap (λ x. take index named ++ x ∷ []) (sym c.loop-name-item.is) in
    let each : map shown (map named_view (take (index + 1) named)) ≡ map shown (map named_view (take index named)) ++ shown (named_view item) ∷ [] =
    ap (λ xs. map shown (map named_view xs)) more ∙ ap (map shown) (map_push named_view (take index named) item)
    ∙ map_push shown (map named_view (take index named)) (named_view item) in
    let text : string_bytes c.in_ok-text.text ≡ c.args.before.now ++ (quoted (string_bytes item.0) ++ c.args.after.now) =
    c.in_ok-text.ensures.ok ∙ after_quoted (string_bytes item.0) c.args.before.now c.args.after.now in
    let made : c.in_ok-at.field-0 ≡ shown (named_view item) = c.in_ok-at.ensures ∙ (λ i. shown_at c.args.kind item.1 (text i)) in
    c.in_ok-push.ensures.items
    ∙ (λ i. c.loop-name.invariant i ++ made i ∷ [])
    ∙ append_assoc c.args.all.now.items (map shown (map named_view (take index named))) (shown (named_view item) ∷ [])
    ∙ ap (λ xs. c.args.all.now.items ++ xs) (sym each)
