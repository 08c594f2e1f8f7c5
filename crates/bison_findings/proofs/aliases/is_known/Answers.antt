use Rattle.std.proofs.Common.{◌≡◌, Bool, true, false, List, [], ◌∷◌, ◌++◌, ℕ, Bor, map, not, if◌then◌else◌, ap, refl, sym, ◌∙◌}
use Rattle.std.proofs.lemmas.List.{map-append}
use Rattle.std.specs.Str.{bytes_eq}
use Rattle.cfgrammar.proofs.Tests.{list_any-map}
use Rattle.bison_findings.proofs.aliases.is_known.Goals as goal

abbrev names : List (Bor (List ℕ)) → List (List ℕ)
names keys = map (λ name. name.now) keys

not_twice : (b : Bool) → not (not b) ≡ b
not_twice true = refl
not_twice false = refl

pushed : (b : Bool) (keys : List (Bor (List ℕ))) (key : Bor (List ℕ))
    → names (if b then keys else keys ++ key ∷ []) ≡ (if b then names keys else names keys ++ key.now ∷ [])
pushed true keys key = refl
pushed false keys key = map-append (λ name. name.now) keys (key ∷ [])

pub returns-clause-was : goal.returns-clause-was
returns-clause-was c =
    ap not c.in_ok-insert.ensures.added ∙ not_twice _
    ∙ sym (list_any-map (bytes_eq c.args.name.now) (λ name. name.now) c.args.known.now.keys)

pub returns-clause-known : goal.returns-clause-known
returns-clause-known c =
    ap names c.in_ok-insert.ensures.keys ∙ pushed _ c.args.known.now.keys c.args.name
    ∙ ap (λ b. if b then names c.args.known.now.keys else names c.args.known.now.keys ++ c.args.name.now ∷ [])
    (sym (list_any-map (bytes_eq c.args.name.now) (λ name. name.now) c.args.known.now.keys))
