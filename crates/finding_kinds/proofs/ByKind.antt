-- Tables by kind: what a kind's entry is once it, or another one, is given another entry.
use Rattle.std.proofs.Common.{◌≡◌, ℕ, ◌<◌, ◌==◌, inl, inr, if◌then◌else◌, List, length, map, get_or, slice_set, refl, sym, ap, ◌∙◌, arith, length-set, get_or-set_same}
use Rattle.std.proofs.lemmas.Bool.{cases_eq}
use Rattle.std.proofs.lemmas.List.{get_or-set_other}
use Rattle.std.proofs.lemmas.List.FromFn.{fill_by_all}
use Rattle.finding_kinds.specs.declared.finding_kind.FindingKind.{FindingKind}
use Rattle.finding_kinds.specs.declared.finding_kind.FindingKind.TheVariants.{UnusedRule}
use Rattle.finding_kinds.specs.declared.levels.Level.{Level}
use Rattle.finding_kinds.specs.declared.levels.Level.TheVariants.{Warn}
use Rattle.finding_kinds.specs.declared.levels.Levels.{Levels}
use Rattle.finding_kinds.specs.FindingKinds.{kinds, level_of, number, with_level}

-- the kind of a number
abbrev kind_at : ℕ → FindingKind
kind_at n = get_or kinds n UnusedRule

kind_there : (kind : FindingKind) → kind_at (number kind) ≡ kind
kind_there kind = grind arith

number_within : (kind : FindingKind) → number kind < 29
number_within kind = grind arith

-- a table of all kinds has for each kind what it was made of
entry_of : (entry : FindingKind → Level) (kind : FindingKind) → get_or (map entry kinds) (number kind) Warn ≡ entry kind
entry_of entry kind = grind arith

module _ (levels : Levels) (kind : FindingKind) (level : Level) where
  abbrev entry : FindingKind → Level
  entry other = if number other == number kind then level else level_of levels other

  same_entry : (other : FindingKind) → number other ≡ number kind → entry other ≡ level
  same_entry other same = grind (arith, same)

  other_entry : (other : FindingKind) → (number other ≡ number kind → ⊥) → entry other ≡ level_of levels other
  other_entry other differ = grind (arith, differ)

  pub given_level : level_of (with_level levels kind level) kind ≡ level
  given_level = entry_of entry kind ∙ same_entry kind refl

  pub other_level : (other : FindingKind) → (other ≡ kind → ⊥) → level_of (with_level levels kind level) other ≡ level_of levels other
  other_level other differ = entry_of entry other ∙ other_entry other (λ same. differ (sym (kind_there other) ∙ ap kind_at same ∙ kind_there kind))

  -- a table in which the kind's entry was set
  pub set_by_kind : length levels.by_kind ≡ 29 → (table : List Level) → table ≡ slice_set levels.by_kind (number kind) level → record { by_kind = table } ≡ with_level levels kind level
  set_by_kind long table is = ap (λ l. record { by_kind = l }) (by_numbers ∙ (λ i. map (λ other. each other i) kinds))
    where
      by_numbers : table ≡ map (λ other. get_or table (number other) Warn) kinds
      by_numbers = fill_by_all (λ n. get_or table n Warn) table 29 Warn (ap length is ∙ length-set levels.by_kind (number kind) level ∙ long) (λ n within. refl)

      each : (other : FindingKind) → get_or table (number other) Warn ≡ entry other
      each other = ap (λ l. get_or l (number other) Warn) is ∙ elim (cases_eq (number other) (number kind)) [
        | inl same ↦ ap (λ n. get_or (slice_set levels.by_kind (number kind) level) n Warn) same
            ∙ get_or-set_same levels.by_kind (number kind) level Warn within ∙ sym (same_entry other same)
        | inr differ ↦ get_or-set_other levels.by_kind (number kind) (number other) level Warn differ ∙ sym (other_entry other differ)
      ]
        where
          within : number kind < length levels.by_kind
          within = omega (arith, long, number_within kind)
