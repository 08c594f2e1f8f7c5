-- The productions that rules list, and the implicit tokens, exist.
use Rattle.std.proofs.Common.{◌≡◌, ℕ, ◌<◌, ◌==◌, true, List, length, map, get_or, All, Contains, Option, Some, None, IfSome, option_map, refl, sym, subst, arith, eq-eqb}
use Rattle.std.specs.List.{list_any}
use Rattle.std.specs.Str.{bytes_eq}
use Rattle.std.proofs.lemmas.List.Elements.{All-map}
use Rattle.std.proofs.lemmas.Option.{get_or_from_slice_get, slice_get-get_or}
use Rattle.lemmas.specs.Lists.{positions_from}
use Rattle.lemmas.proofs.Elements.{element_at}
use Rattle.lemmas.proofs.Passing.{positions_from-within, positions_from-contains}
use Rattle.cfgbase.specs.declared.span.Span.{Span}
use Rattle.cfgitems.specs.Syntax.{Rule, Syntax, entry_name}
use Rattle.cfgast.specs.WellFormed.{IsWellFormed}
use Rattle.cfgkinds.specs.declared.kind.YaccKind.{YaccKind}
use Rattle.cfgkinds.specs.declared.kind.YaccKind.TheVariants.{Original, Grmtools, Eco}
use Rattle.cfgnumbers.specs.Numbered.{implicit_of}
use Rattle.cfgnumbers.specs.Resolved.{AreTokens}

pub listed_within : (s : Syntax) → IsWellFormed s → All (λ rule. All (λ i. i < length s.productions) rule.1.productions) s.rules
listed_within s well r d within =
    subst (All (λ i. i < length s.productions)) (sym (well.productions_listed r (get_or s.rules r d) (slice_get-get_or s.rules r d within)))
    (λ k e there. omega (arith, positions_from-within (λ other. r == other) 0 s.production_rules k e there, well.production_rules_as_long))

-- each production is listed
pub listed_somewhere : (s : Syntax) → IsWellFormed s → (i : ℕ) → i < length s.productions → (rule : List ℕ × Rule) × Contains s.rules rule × Contains rule.1.productions i
listed_somewhere s well i within =
    let r = get_or s.production_rules i 0 in
    let there : i < length s.production_rules = omega (arith, within, well.production_rules_as_long) in
    let rule_there = well.production_rules_within i 0 there in
    let rule = element_at s.rules r rule_there in
    let is = get_or_from_slice_get s.rules r rule.0 rule.0 rule.1 in
    let own = positions_from-contains (λ other. r == other) 0 i s.production_rules 0 there (eq-eqb r r refl) in (
      rule.0,
      (r, rule_there, is),
      subst (λ listed. Contains listed i) (sym (well.productions_listed r rule.0 rule.1)) (subst (Contains (positions_from 0 (λ other. r == other) s.production_rules)) (omega arith) own),
    )

names_there : (s : Syntax) (table : Option (List (List ℕ × Span))) → IfSome table (λ entries. All (λ entry. list_any (bytes_eq entry.0) s.tokens ≡ true) entries)
    → AreTokens s (option_map (map entry_name) table)
names_there s None there = tt
names_there s (Some entries) there = All-map (λ name. list_any (bytes_eq name) s.tokens ≡ true) entry_name entries there

pub implicit_there : (kind : YaccKind) (s : Syntax) → IsWellFormed s → AreTokens s (implicit_of kind s)
implicit_there (Original actions) s well = tt
implicit_there Grmtools s well = tt
implicit_there Eco s well = names_there s s.tables.implicit_tokens well.implicit_are_tokens
