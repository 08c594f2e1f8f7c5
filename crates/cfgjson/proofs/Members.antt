-- Members in the order of their names.
use Rattle.std.proofs.Common.{◌≡◌, ℕ, Bool, true, false, List, map, Option, None, Some, OnOk, Result, Ok, Err, codes, refl}
use Rattle.serde_json.specs.Data.{Data, Members, array, member, no_members, object, put, string}
use Rattle.serde_json.specs.View.{items_of}
use Rattle.cfgjson.specs.Objects.{ShownDiagnostic, diagnostic_object, place_of, text_at}
use Rattle.cfgjson.specs.Sarif.{location}
use Rattle.cfgjson.specs.Inner.{put_diagnostic, put_file, put_hint, put_region, put_symbols, severity}

-- the object of all members of an error or a warning
pub diagnostic_made : (name text : List ℕ) (shown : ShownDiagnostic) → object (put_diagnostic name text shown no_members) ≡ diagnostic_object name text shown
unfolding diagnostic_object
diagnostic_made name text shown = go shown.hint shown.has_symbols
  where
    go : (hint : Option (List ℕ)) (has : Bool) → let shown : ShownDiagnostic = record shown { hint = hint; has_symbols = has } in
        object (put_diagnostic name text shown no_members) ≡ diagnostic_object name text shown
    go None false = refl
    go None true = refl
    go (Some words) false = refl
    go (Some words) true = refl

-- the object of a file, with the region of a span if it has one
pub location_made : (uri : List ℕ) (region : Option Data)
    → object (member (codes "physicalLocation") (object (put_region region (put_file uri no_members))) no_members) ≡ location uri region
location_made uri None = refl
location_made uri (Some region) = refl

-- each of these members was added in turn
pub diagnostic_put : {U E : Type 0} (r : Result U E) (name text found severe : List ℕ) (seen shown : ShownDiagnostic) (places : Data)
    (old filed severed kinded said placed hinted all : Members) → seen ≡ shown
    → filed ≡ put (codes "file") (string name) old
    → severe ≡ severity seen.is_error → severed ≡ put (codes "severity") (string severe) filed
    → kinded ≡ put (codes "kind") (string seen.kind) severed → said ≡ put (codes "text") (string seen.text) kinded
    → places ≡ array (items_of (map (place_of text) seen.spans)) → placed ≡ put (codes "places") places said
    → hinted ≡ put_hint shown.hint placed
    → found ≡ text → OnOk r (all ≡ put_symbols shown.has_symbols (map (text_at found) shown.spans) hinted)
    → OnOk r (all ≡ put_diagnostic name text shown old)
diagnostic_put (Err wrong) name text found severe seen shown places old filed severed kinded said placed hinted all is a b c d e f g h same last = tt
diagnostic_put (Ok u) name text found severe seen shown places old filed severed kinded said placed hinted all is a b c d e f g h same last =
    rw (last, h, g, f, e, d, c, b, a, same, is) refl
