-- Which parts of a value are wrong, checked one by one.
use Rattle.std.proofs.Common.{◌≡◌, ℕ, ◌+◌, ◌<◌, List, [], ◌∷◌, ◌++◌, length, map, take, drop, get_or, Option, Some, None, Result, Ok, Err, filter_map, IfErr, refl, sym, ap, ◌∙◌, subst, Bor}
use Rattle.std.specs.Prelude.{◌≢◌}
use Rattle.std.specs.Option.{option_copied, option_to_list}
use Rattle.std.specs.Result.{IsErrAnd}
use Rattle.std.proofs.lemmas.List.{append-nil, map-append, take_more, take-append-drop}
use Rattle.std.proofs.lemmas.List.Elements.{filter_map-append}
use Rattle.lemmas.proofs.Growing.{filter_map-push}
use Rattle.cfgkinds.specs.YaccKinds.{kind_unless, Refuses}
use Rattle.cfgkinds.specs.declared.kind.YaccKind.{YaccKind}
use Rattle.cfgkinds.specs.declared.fault.KindFault.{KindFault}
use Rattle.cfgkinds.specs.declared.fault.KindFault.TheVariants.{OutOfMemory}

pub kind_unless-wrong : {T : Type 0} (wrong : List T) (kind : Option YaccKind) → wrong ≢ [] → kind_unless wrong kind ≡ Err wrong
kind_unless-wrong [] kind some = absurd (some refl)
kind_unless-wrong (x ∷ wrong) None some = refl
kind_unless-wrong (x ∷ wrong) (Some kind) some = refl

not_empty : {A : Type 0} (prefix : List A) (x : A) (back : List A) → (prefix ++ x ∷ []) ++ back ≢ []
not_empty [] x back none = cc
not_empty (y ∷ prefix) x back none = cc

-- running out of memory is a possible result if something is wrong
pub out_of_memory : {T : Type 0} (is_clone : T → T → Type 0) (r : Result YaccKind (KindFault T)) (kind : Result YaccKind (List T)) (wrong : List T)
    → IsErrAnd r (λ fault. fault ≡ OutOfMemory) → kind ≡ Err wrong → IfErr r (λ fault. Refuses is_clone kind fault)
out_of_memory is_clone (Ok named) kind wrong h is = tt
out_of_memory is_clone (Err fault) kind wrong h is = subst (Refuses is_clone kind) (sym h) (wrong, is)

module _ {T : Type 0} (parts : List (Option (Bor T))) (i : ℕ) (part : Option (Bor T)) (within : i < length parts) (there : part ≡ get_or parts i part) where
  -- the wrong ones
  abbrev pub reported : List (Option (Bor T)) → List T
  reported those = filter_map (λ p. p) (map option_copied those)

  reported_more : reported (take (i + 1) parts) ≡ reported (take i parts) ++ option_to_list (option_copied part)
  reported_more =
      ap reported (take_more parts i part within ∙ ap (λ p. take i parts ++ p ∷ []) (sym there))
      ∙ ap (filter_map (λ p. p)) (map-append option_copied (take i parts) (part ∷ []))
      ∙ filter_map-push (λ p. p) (map option_copied (take i parts)) (option_copied part)

  pub reported_pushed : (location : Bor T) → part ≡ Some location → reported (take (i + 1) parts) ≡ reported (take i parts) ++ location.now ∷ []
  reported_pushed location is = reported_more ∙ ap (λ p. reported (take i parts) ++ option_to_list (option_copied p)) is

  pub reported_passed : part ≡ None → reported (take (i + 1) parts) ≡ reported (take i parts)
  reported_passed is = reported_more ∙ ap (λ p. reported (take i parts) ++ option_to_list (option_copied p)) is ∙ append-nil (reported (take i parts))

  pub reported_some : (location : Bor T) → part ≡ Some location → reported parts ≢ []
  reported_some location is none =
      let rest = drop (i + 1) parts in
      let whole : reported parts ≡ (reported (take i parts) ++ location.now ∷ []) ++ reported rest =
      ap reported (sym (take-append-drop (i + 1) parts))
      ∙ ap (filter_map (λ p. p)) (map-append option_copied (take (i + 1) parts) rest)
      ∙ filter_map-append (λ p. p) (map option_copied (take (i + 1) parts)) (map option_copied rest)
      ∙ ap (λ prefix. prefix ++ reported rest) (reported_pushed location is) in
      not_empty (reported (take i parts)) location.now (reported rest) (sym whole ∙ none)
