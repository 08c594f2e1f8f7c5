use Rattle.std.proofs.Common.{◌≡◌, Option, Some, None, option_map, bytes_eq, string_bytes, refl, sym, ap, ◌∙◌}
use Rattle.std.specs.Borrow.{Bor}
use Rattle.std.specs.Map.{lookup}
use Rattle.std.specs.Option.{option_copied}
use Rattle.lemmas.proofs.Lookups.{lookup-map}
use Rattle.bison_errors.proofs.name_errors.given.Goals as goal

copied : {A : Type 0} (found : Option (Bor A)) → option_map (λ (found : Bor A). found.now) found ≡ option_copied found
copied None = refl
copied (Some found) = refl

same : {A : Type 0} (found : Option A) → option_map (λ x. x) found ≡ found
same None = refl
same (Some x) = refl

pub returns : goal.returns
returns c =
    let name = c.args.name.now in
    copied c.get.result ∙ c.get.ensures.value ∙ sym (same _) ∙ sym (lookup-map (bytes_eq name) string_bytes (λ v. v) c.precs.result.now.entries)
    ∙ ap (lookup (bytes_eq name)) c.precs.ensures
