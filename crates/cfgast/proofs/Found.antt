-- What is found among rules and tokens by a name.
use Rattle.std.proofs.Common.{◌≡◌, ℕ, List, map, position, String, Global, string_bytes, string_eq, false, [], ◌∷◌, sym, ap, ◌∙◌}
use Rattle.std.specs.List.{IsDistinct, AllByRecursion}
use Rattle.std.specs.Map.{keys_of}
use Rattle.std.specs.Str.{bytes_eq}
use Rattle.std.proofs.lemmas.Simd.{map-map}
use Rattle.lemmas.proofs.Positions.{position-map}
use Rattle.cfgitems.specs.Syntax.{entry_name}
use Rattle.cfgitems.specs.SyntaxView.{rule_entry}
use Rattle.cfgitems.specs.declared.rule.Rule as source
use Rattle.cfgitems.proofs.Views.{is_key}

-- rules are looked up among their keys
pub rule_names : (es : List (String Global × source.Rule)) → map entry_name (map rule_entry es) ≡ map string_bytes (keys_of es)
rule_names es = map-map entry_name rule_entry es ∙ sym (map-map string_bytes (λ (e : String Global × source.Rule). e.0) es)

pub rule_position : (name : List ℕ) (es : List (String Global × source.Rule))
    → position (bytes_eq name) (map entry_name (map rule_entry es)) ≡ position (is_key name) (keys_of es)
rule_position name es = ap (position (bytes_eq name)) (rule_names es) ∙ position-map (bytes_eq name) string_bytes (keys_of es)

-- keys that differ as keys differ in their bytes
pub names_differ : (keys : List (String Global)) → IsDistinct string_eq keys → IsDistinct bytes_eq (map string_bytes keys)
unfolding IsDistinct
names_differ [] h = tt
names_differ (key ∷ keys) h = (others keys h.0, names_differ keys h.1)
  where
    others : (rest : List (String Global)) → AllByRecursion (λ k. string_eq key k ≡ false) rest → AllByRecursion (λ n. bytes_eq (string_bytes key) n ≡ false) (map string_bytes rest)
    others [] h = tt
    others (k ∷ rest) h = (h.0, others rest h.1)
