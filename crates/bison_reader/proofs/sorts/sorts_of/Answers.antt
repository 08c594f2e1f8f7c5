use Rattle.std.proofs.Common.{◌≡◌, ℕ, ◌+◌, ◌<◌, List, [], ◌∷◌, ◌++◌, length, get_or, map, take, sym, ap, ◌∙◌}
use Rattle.std.proofs.lemmas.List.{map-append, take_more}
use Rattle.bison_words.specs.Words.{word_view}
use Rattle.bison_reader.specs.Sorts.{lexeme_sort}
use Rattle.bison_reader.proofs.sorts.sorts_of.Goals as goal

-- one more of what f makes of what items represent
mapped_more : {X Y Z : Type 0} (view : X → Y) (f : Y → Z) (xs : List X) (i : ℕ) (x : X) → i < length xs → (sofar more : List Z) (z : Z)
    → more ≡ sofar ++ z ∷ [] → z ≡ f (view (get_or xs i x)) → sofar ≡ map f (map view (take i xs)) → more ≡ map f (map view (take (i + 1) xs))
mapped_more view f xs i x less sofar more z e is invariant =
    let item = get_or xs i x in
    let viewed : map view (take (i + 1) xs) ≡ map view (take i xs) ++ view item ∷ [] =
    ap (map view) (take_more xs i x less) ∙ map-append view (take i xs) (item ∷ []) in
    e ∙ (λ j. invariant j ++ is j ∷ []) ∙ sym (ap (map f) viewed ∙ map-append f (map view (take i xs)) (view item ∷ []))

pub loop-word-preserved : goal.loop-word-preserved
loop-word-preserved c =
    mapped_more word_view (λ word. lexeme_sort word.lexeme) c.args.words.now c.loop-word.word-index _ c.loop-word-test.true
    c.loop-word.sorts.items _ c.sort_of.result c.in_ok-push.ensures.items c.sort_of.ensures c.loop-word.invariant
