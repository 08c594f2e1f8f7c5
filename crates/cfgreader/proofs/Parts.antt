-- The loops over the parts of a production.
use Rattle.std.proofs.Common.{◌≡◌, ℕ, ◌≤◌, Bool, true, false, List, [], ◌∷◌, ◌++◌, filter_map, length, Option, Some, None, Ok, option_map, refl, sym, ap, subst, ◌∙◌, arith, append-nil, append_assoc, length-append, ◌<◌}
use Rattle.std.specs.Prelude.{IfSome}
use Rattle.std.specs.Option.{option_or}
use Rattle.std.proofs.lemmas.List.Elements.{filter_map-append}
use Rattle.lemmas.proofs.Elements.{slice_get_push}
use Rattle.constructs.specs.Construct.{computes, many}
use Rattle.constructs.proofs.Agree.{leaves}
use Rattle.constructs.proofs.Steps.{Gathers, gathers_start, gathers_on, turn_shorter, many_done, many_stops, returns_then, stops_then}
use Rattle.cfgwords.specs.FileWords.{Token}
use Rattle.cfgwords.specs.Text.{offset_of}
use Rattle.cfgitems.specs.Syntax.{last_of}
use Rattle.cfgreader.specs.declared.bodies.Parts.{Parts as CodeParts}
use Rattle.cfgreader.specs.declared.reader.Reader.{Reader}
use Rattle.cfgreader.specs.declared.reader.ReadFault.{ReadFault}
use Rattle.cfgreader.specs.Here.{Turn}
use Rattle.cfgreader.specs.Rules.{Part, Parts, part_end, precedence_in, parts_sequence, symbol_in, with_parts}
use Rattle.cfgreader.specs.Inner.Builds.{AddsPart, Builds, Fails, fault_of, file_reader, parts_view}

-- the last of a list after a push
last_of-push : {A : Type 0} (xs : List A) (x : A) → last_of (xs ++ x ∷ []) ≡ Some x
last_of-push xs x = slice_get_push xs x _ (omega (arith, length-append xs (x ∷ [])))

-- with no more parts
with_none : (before : Parts) → with_parts before [] ≡ before
with_none before = λ i. record { symbols = append-nil before.symbols i; precedences = append-nil before.precedences i; end = before.end }

-- Adding parts one by one, as the code does, gives the summary of the whole list.
with_push : (before : Parts) (parts : List Part) (part : Part) → with_parts before (parts ++ part ∷ []) ≡ with_parts (with_parts before parts) (part ∷ [])
with_push before parts part = λ i. record {
  symbols = added symbol_in before.symbols i;
  precedences = added precedence_in before.precedences i;
  end = ap (λ o. option_or (option_map part_end o) before.end) (last_of-push parts part) i;
}
  where
    added : (said : Part → Option Token) (tokens : List Token) → tokens ++ filter_map said (parts ++ part ∷ []) ≡ (tokens ++ filter_map said parts) ++ filter_map said (part ∷ [])
    added said tokens = ap (λ xs. tokens ++ xs) (filter_map-append said parts (part ∷ [])) ∙ sym (append_assoc tokens (filter_map said parts) (filter_map said (part ∷ [])))

-- the parts so far: no part of the loop ends before its start, so if no earlier part ends before an offset up to there, none does
pub record InParts (c : ℕ → Turn Part) (before : Parts) (start now : Reader) (parts : CodeParts) : Type 0 where
  pub gathers : Gathers file_reader c start now
  pub values : parts_view parts ≡ with_parts before gathers.values
  pub shorter : length now.rest.now ≤ length start.rest.now
  pub ends : (from : ℕ) → from ≤ offset_of start.len start.rest.now → IfSome before.end (λ end. from ≤ end) → IfSome parts.end (λ end. from ≤ end)

pub parts_start : (c : ℕ → Turn Part) (before : Parts) (start : Reader) (parts : CodeParts) → parts_view parts ≡ before → InParts c before start start parts
unfolding gathers_start
parts_start c before start parts same = record {
  gathers = gathers_start start;
  values = same ∙ sym (with_none before);
  shorter = omega arith;
  ends = λ from here before_ends. subst (λ (p : Parts). IfSome p.end (λ end. from ≤ end)) (sym same) before_ends;
}

module _ (c : ℕ → Turn Part) (before : Parts) (start now : Reader) (parts : CodeParts) (so_far : InParts c before start now parts) (next : Reader) where
  pub parts_on : (more : CodeParts) → AddsPart now next parts more (Ok true) (c now.len) → InParts c before start next more
  unfolding gathers_on
  parts_on more (part, builds, added, beyond) =
      let less = turn_shorter file_reader c (λ (_ : Bool). Some part) now next true part builds refl in
      let further : offset_of start.len start.rest.now ≤ offset_of now.len now.rest.now = omega (arith, so_far.shorter, so_far.gathers.fixed) in
      let ended : more.end ≡ Some (part_end part) = ap (λ (p : Parts). p.end) added in
      record {
        gathers = gathers_on so_far.gathers next (λ (_ : Bool). Some part) true builds part refl;
        values = added ∙ ap (λ (p : Parts). with_parts p (part ∷ [])) so_far.values ∙ sym (with_push before so_far.gathers.values part);
        shorter = omega (arith, so_far.shorter, less);
        ends = λ from here before_ends. subst (λ o. IfSome o (λ end. from ≤ end)) (sym ended) (omega (arith, here, further, beyond));
      }

  pub parts_smaller : (more : CodeParts) → AddsPart now next parts more (Ok true) (c now.len) → length next.rest.now < length now.rest.now
  parts_smaller more (part, builds, added, beyond) = turn_shorter file_reader c (λ (_ : Bool). Some part) now next true part builds refl

  pub parts_done : (last : CodeParts) → AddsPart now next parts last (Ok false) (c now.len) → Builds (λ (x : Unit {0}). parts_view last) start next (Ok tt) (parts_sequence (c start.len) before)
  unfolding parts_sequence
  parts_done last (builds, same) =
      let sequence = many_done so_far.gathers next (λ (_ : Bool). None) false builds (λ (x : Unit {0}). so_far.gathers.values) tt refl refl in
      let reported = returns_then file_reader (with_parts before) start next (computes (many (c start.len)) start.rest.now) (λ (x : Unit {0}). so_far.gathers.values) (Ok tt) sequence in
      (reported.0 ∙ ap (λ p. Ok (p, next.rest.now)) (sym (ap parts_view same ∙ so_far.values)), reported.1, reported.2)

  pub parts_fail : (e : ReadFault) → Fails now next e (c now.len) → Fails start next e (parts_sequence (c start.len) before)
  unfolding parts_sequence
  parts_fail e fails = stops_then file_reader (with_parts before) start next _ (fault_of e) (many_stops so_far.gathers next (fault_of e) fails)

  pub parts_shorter : (last : CodeParts) → AddsPart now next parts last (Ok false) (c now.len) → length next.rest.now ≤ length start.rest.now
  parts_shorter last (builds, same) = omega (arith, so_far.shorter, (leaves (c now.len)).least now.rest.now _ _ builds.0)
