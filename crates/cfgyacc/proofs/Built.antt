-- The tables of a valid syntax, and what a constructor returns.
use Rattle.std.proofs.Common.{◌≡◌, ℕ, List, [], ◌∷◌, ◌++◌, length, map, Option, option_map, Err, String, Global, refl, sym, subst}
use Rattle.std.specs.List.{zip}
use Rattle.cfgindex.specs.declared.idxnewtype.PIdx.{PIdx}
use Rattle.cfgindex.specs.declared.idxnewtype.RIdx.{RIdx}
use Rattle.cfgitems.specs.declared.settings.Settings.{Settings}
use Rattle.cfgitems.specs.Syntax.{Syntax}
use Rattle.cfgitems.specs.SyntaxView.{settings_view}
use Rattle.cfgerrors.specs.Errors.{GrammarError}
use Rattle.cfgast.specs.Sound.{IsSound}
use Rattle.cfgast.specs.WellFormed.{IsWellFormed}
use Rattle.cfgkinds.specs.declared.kind.YaccKind.{YaccKind}
use Rattle.cfgerrors.specs.declared.error.YaccFault.{YaccFault}
use Rattle.cfgerrors.specs.declared.error.YaccFault.TheVariants as faults
use Rattle.cfgsyntax.specs.Parsed.{Parsed}
use Rattle.cfgfaults.specs.FaultErrors.{IsTooSmall}
use Rattle.cfgyacc.specs.Answer.{WasRead, IsAnswer, IsGrammar, IsReadRefused, in_numbers}
use Rattle.cfgnumbers.specs.Fits.{Fits, LeavesRoom}
use Rattle.cfgnumbers.specs.Numberable.{IsNumberable}
use Rattle.cfgnumbers.specs.Numbered.{Numbered, NumberedProduction, numbered, numbered_by, implicit_of, added_rules, file_rule, added_productions, file_production, file_token, end_token}
use Rattle.cfgnumbers.specs.TablesView.{tables, rule_view, token_view}
use Rattle.cfgnumbers.specs.WellNumbered.{IsWellNumbered}
use Rattle.cfgnumbers.specs.declared.rows.RuleRow.{RuleRow}
use Rattle.cfgnumbers.specs.declared.rows.TokenRow.{TokenRow}
use Rattle.cfgnumbers.proofs.Listed.{listed_once}
use Rattle.cfgnumbers.proofs.DistinctNames.{distinct_names}
use Rattle.cfgnumbers.proofs.Positions.{implicit_there}
use Rattle.cfgnumbers.proofs.Room.{fits_from_room, room_from_fits}
use Rattle.cfgnumbers.proofs.Whole.{whole}

-- what is true of a syntax and of its implicit tokens
pub of_both : (P : Syntax → Option (List (List ℕ)) → Type 0) (s t : Syntax) (implicit other : Option (List (List ℕ))) → s ≡ t → implicit ≡ other → P t other → P s implicit
of_both P s t implicit other same same_implicit holds = subst (P s) (sym same_implicit) (subst (λ x. P x other) (sym same) holds)

module _ {S : Type 0} (number : S → ℕ) (kind : YaccKind) (s : Syntax)
    (rules : List (String Global × RuleRow S)) (productions : List NumberedProduction) (tokens : List (String Global × TokenRow)) (start : PIdx S)
    (implicit_rule : Option (RIdx S)) (settings : Settings) where
  -- tables of these rows are the numbered syntax
  pub built : map (rule_view number) rules ≡ added_rules (implicit_of kind s) (length s.productions) ++ map file_rule s.rules
      → productions ≡ map (file_production (implicit_of kind s) s) (zip s.production_rules s.productions) ++ added_productions (implicit_of kind s) s
      → map token_view tokens ≡ map (file_token s) (zip s.tokens s.spans) → number start.0 ≡ length s.productions
      → option_map (λ rule. number rule.0) implicit_rule ≡ option_map (λ names. 1) (implicit_of kind s) → settings_view settings ≡ s.settings
      → tables number rules productions tokens start implicit_rule settings ≡ numbered kind s
  unfolding tables numbered numbered_by
  built rules_are productions_are tokens_are start_is implicit_rule_is settings_are = λ i. record {
    rules = rules_are i;
    tokens = tokens_are i ++ end_token ∷ [];
    productions = productions_are i;
    start_production = start_is i;
    implicit_rule = implicit_rule_is i;
    settings = settings_are i;
  }

-- the numbers of a syntax that can be numbered
pub well_numbered : (max : ℕ) (kind : YaccKind) (s : Syntax) → IsNumberable s → LeavesRoom max (implicit_of kind s) s → IsWellNumbered max (numbered kind s)
unfolding numbered
well_numbered max kind s numberable room =
    let implicit = implicit_of kind s in
    record {
      whole = whole implicit s numberable (implicit_there kind s numberable.well_formed);
      counted = fits_from_room max implicit s numberable.well_formed room;
      names = distinct_names implicit s numberable;
      listed_once = listed_once implicit s numberable.well_formed;
    }

-- the errors of what was read, if it has any
pub refused : (max : ℕ) (errors : List GrammarError) (g : Numbered) (reported : List GrammarError) → (errors ≡ [] → ⊥) → reported ≡ errors → IsReadRefused max errors g reported
refused max [] g reported some same = absurd (some refl)
refused max (error ∷ errors) g reported some same = same

-- a grammar fits exactly if it leaves room
pub fits : (max : ℕ) (kind : YaccKind) (s : Syntax) → IsWellFormed s → LeavesRoom max (implicit_of kind s) s → Fits max (numbered kind s)
unfolding numbered
fits max kind s = fits_from_room max (implicit_of kind s) s

pub room : (max : ℕ) (kind : YaccKind) (s : Syntax) → IsWellFormed s → Fits max (numbered kind s) → LeavesRoom max (implicit_of kind s) s
unfolding numbered
room max kind s = room_from_fits max (implicit_of kind s) s

-- a grammar that is too large
pub too_large : (max : ℕ) (parsed : Parsed) (fault : YaccFault) → IsSound parsed.syntax parsed.errors → parsed.errors ≡ []
    → (LeavesRoom max (implicit_of parsed.kind parsed.syntax) parsed.syntax → ⊥) → IsTooSmall fault → IsAnswer max (WasRead parsed) (Err fault)
too_large max parsed faults.OutOfMemory sound none no_room reported = tt
too_large max parsed (faults.Errors list) sound none no_room reported =
    subst (λ e. IsReadRefused max e (in_numbers parsed) list.items) (sym none)
    ((λ it. no_room (room max parsed.kind parsed.syntax sound.well_formed it)), reported)

-- a grammar
pub answered : (max : ℕ) (parsed : Parsed) (g : Numbered) → IsSound parsed.syntax parsed.errors → parsed.errors ≡ [] → LeavesRoom max (implicit_of parsed.kind parsed.syntax) parsed.syntax
    → g ≡ in_numbers parsed → IsGrammar max (WasRead parsed) g
answered max parsed g sound none room same = (none, fits max parsed.kind parsed.syntax sound.well_formed room, same)
