-- The settings of an array, one by one; and what follows a bracket.
use Rattle.std.proofs.Common.{◌≡◌, ◌≢◌, ℕ, zero, suc, ◌-◌, ◌<◌, true, false, List, [], ◌∷◌, ◌++◌, length, Some, None, Result, Ok, Err, refl, sym, ap, subst, ◌∙◌, arith, Vec, Global}
use Rattle.std.proofs.lemmas.List.{map-append}
use Rattle.cfgbase.specs.declared.span.Span.{Span}
use Rattle.constructs.specs.Construct.{while_test, computes}
use Rattle.constructs.specs.Steps.{Fails, Returns, Stops}
use Rattle.constructs.proofs.Agree.{leaves}
use Rattle.constructs.proofs.Steps.{Gathers, gathers_start, gathers_on, many_done, many_stops, while_builds, while_done}
use Rattle.cfgkinds.specs.declared.value.Setting.{Setting}
use Rattle.cfgsection.specs.declared.section.fault.ReadFault.{ReadFault}
use Rattle.cfgsection.specs.declared.section.reader.Reader.{Reader}
use Rattle.cfgkinds.specs.Values.{ShownSetting, setting_view}
use Rattle.cfgsection.specs.SectionGrammar.{Fault, Strict, Turn, goes_on_before, nesting_fault, element, elements, array, setting_by, setting, bracketed}
use Rattle.cfgsection.specs.Inner.Steps.{Builds, fault_of, section_reader, settings_list}

abbrev pub one_element : ℕ → (len : ℕ) → Strict (ShownSetting Span)
one_element room len = element len (setting len room)

abbrev pub element_turn : ℕ → (len : ℕ) → Turn (ShownSetting Span)
element_turn room len = while_test (goes_on_before 93) (one_element room len)

-- the loop so far, and its values
pub record InElements (room : ℕ) (start now : Reader) (values : List (Setting Span)) : Type 0 where
  pub gathers : Gathers section_reader (element_turn room) start now
  pub same : gathers.values ≡ settings_list values

pub elements_start : (room : ℕ) (start : Reader) (values : List (Setting Span)) → values ≡ [] → InElements room start start values
unfolding gathers_start
elements_start room start values none = record { gathers = gathers_start start; same = sym (ap settings_list none) }

pub elements_smaller : (room : ℕ) (now next : Reader) (x : Setting Span) → Builds setting_view now next (Ok x) (one_element room now.len) → length next.rest.now < length now.rest.now
elements_smaller room now next x builds = omega (arith, (leaves (one_element room now.len)).least now.rest.now _ _ builds.0)

module _ (room : ℕ) {start now : Reader} {values : List (Setting Span)} (so_far : InElements room start now values) where
  pub elements_on : (next : Reader) (x : Setting Span) → goes_on_before 93 now.rest.now ≡ true → Builds setting_view now next (Ok x) (one_element room now.len)
      → (more : List (Setting Span)) → more ≡ values ++ x ∷ [] → InElements room start next more
  unfolding gathers_on
  elements_on next x here builds more e = record {
    gathers = gathers_on so_far.gathers next (λ x. Some (setting_view x)) x (while_builds section_reader (goes_on_before 93) (one_element room) now setting_view next (Ok x) here builds) (setting_view x) refl;
    same = ap (λ vs. vs ++ setting_view x ∷ []) so_far.same ∙ sym (map-append setting_view values (x ∷ [])) ∙ sym (ap settings_list e);
  }

  pub elements_fail : (next : Reader) (e : ReadFault) → goes_on_before 93 now.rest.now ≡ true → Fails section_reader now next e (one_element room now.len)
      → Fails section_reader start next e (elements start.len (setting start.len room))
  unfolding elements
  elements_fail next e here refused = many_stops so_far.gathers next (fault_of e)
      (while_builds section_reader (goes_on_before 93) (one_element room) now {X = Setting Span} setting_view next (Err e) here refused)

  pub elements_done : goes_on_before 93 now.rest.now ≡ false → (list : Vec (Setting Span) Global) → list.items ≡ values
      → Builds (λ (values : Vec (Setting Span) Global). settings_list values.items) start now (Ok list) (elements start.len (setting start.len room))
  unfolding elements
  elements_done here list e = many_done so_far.gathers now (λ (x : Unit {0}). None) tt (while_done section_reader (goes_on_before 93) (one_element room) now here)
      (λ (values : Vec (Setting Span) Global). settings_list values.items) list (so_far.same ∙ sym (ap settings_list e)) refl

-- after a bracket that may not open, and after one that may
pub bracketed_none : (len room : ℕ) (opening : Span) → room ≡ 0 → (text : List ℕ) → (computes (bracketed len room opening) text) ≡ record { items = []; outcome = Err (nesting_fault opening) }
unfolding bracketed
bracketed_none len zero opening e text = refl
bracketed_none len (suc room) opening e text = absurd (omega arith)

pub bracketed_some : (len room : ℕ) (opening : Span) → room ≢ 0 → (text : List ℕ) → computes (bracketed len room opening) text ≡ computes (array len (setting len (room - 1)) opening) text
unfolding bracketed setting
bracketed_some len zero opening some text = absurd (some refl)
bracketed_some len (suc room) opening some text =
    let before : room ≡ suc room - 1 = omega arith in
    ap (λ n. computes (array len (setting_by len (bracketed len n)) opening) text) before

-- in terms of the reader
module _ (now next : Reader) (room : ℕ) (opening : Span) where
  pub bracketed_refused : (shown : Fault) → room ≡ 0 → shown ≡ nesting_fault opening → Stops section_reader now now (Some shown) (computes (bracketed now.len room opening) now.rest.now)
  bracketed_refused shown none is = subst (Stops section_reader now now (Some shown)) (sym (bracketed_none now.len room opening none now.rest.now)) (ap Err (sym is), refl)

  pub bracketed_built : (result : Result (Setting Span) ReadFault) → room ≢ 0 → Builds setting_view now next result (array now.len (setting now.len (room - 1)) opening)
      → Builds setting_view now next result (bracketed now.len room opening)
  bracketed_built result some builds = subst (Returns section_reader setting_view now next result) (sym (bracketed_some now.len room opening some now.rest.now)) builds
