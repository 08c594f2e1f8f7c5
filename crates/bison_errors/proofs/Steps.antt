-- Steps of loops that collect errors.
use Rattle.std.proofs.Common.{◌≡◌, ℕ, ◌+◌, ◌<◌, List, [], ◌∷◌, ◌++◌, Option, Some, None, length, get_or, map, filter_map, drop, append_assoc, refl, sym, ap, ◌∙◌}
use Rattle.std.proofs.lemmas.List.{at_drop_more}
use Rattle.bison_tree.proofs.Steps.{stepped_by}
use Rattle.bison_reader.specs.declared.item.Part.{Part}
use Rattle.bison_words.specs.Words.{Word}
use Rattle.bison_errors.specs.declared.error.Error.{Error}
use Rattle.bison_errors.specs.declared.error.Once.{Once}
use Rattle.bison_errors.specs.Errors.{noted, parts_errors, priority_error, repeat_error, with_noted}

-- f of an item says what is kept of it
abbrev pub kept : {E : Type 0} → Option E → List E
kept None = []
kept (Some e) = e ∷ []

kept_first : {Y E : Type 0} (f : Y → Option E) (y : Y) (ys : List Y) → filter_map f (y ∷ ys) ≡ kept (f y) ++ filter_map f ys
kept_first f y ys = go (f y) refl
  where
    go : (o : Option _) → f y ≡ o → filter_map f (y ∷ ys) ≡ kept o ++ filter_map f ys
    go None e = rw e
    go (Some x) e = rw e

pub kept_more : {X Y E : Type 0} (view : X → Y) (f : Y → Option E) (xs : List X) (i : ℕ) (x : X) → i < length xs → x ≡ get_or xs i x
    → (sofar more whole : List E) → more ≡ sofar ++ kept (f (view x)) → sofar ++ filter_map f (map view (drop i xs)) ≡ whole
    → more ++ filter_map f (map view (drop (i + 1) xs)) ≡ whole
kept_more view f = stepped_by view (filter_map f) (λ y. kept (f y)) (kept_first f)

-- what is wrong with the parts so far, with what is wrong with the rest, after one more part
pub parts_more : (words : List Word) (parts : List Part) (i : ℕ) (x : Part) → i < length parts → (once once' : Once) (first : Option ℕ) (sofar m more whole : List Error)
    → m ≡ sofar ++ priority_error words (get_or parts i x) → more ≡ m ++ repeat_error words first (get_or parts i x)
    → first ≡ noted once (get_or parts i x).kind → once' ≡ with_noted once (get_or parts i x).kind (get_or parts i x).word
    → sofar ++ parts_errors words once (drop i parts) ≡ whole → more ++ parts_errors words once' (drop (i + 1) parts) ≡ whole
parts_more words parts i x less once once' first sofar m more whole e1 e2 is next invariant =
    let part = get_or parts i x in
    let rest = parts_errors words (with_noted once part.kind part.word) (drop (i + 1) parts) in
    let repeated = repeat_error words (noted once part.kind) part in
    let opened : parts_errors words once (drop i parts) ≡ priority_error words part ++ (repeated ++ rest) = at_drop_more (parts_errors words once) parts i x less in
    (λ j. e2 j ++ parts_errors words (next j) (drop (i + 1) parts))
    ∙ (λ j. (e1 j ++ repeat_error words (is j) part) ++ rest)
    ∙ append_assoc (sofar ++ priority_error words part) repeated rest
    ∙ append_assoc sofar (priority_error words part) (repeated ++ rest)
    ∙ ap (λ t. sofar ++ t) (sym opened) ∙ invariant
