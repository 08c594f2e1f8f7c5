-- Declarations, by the keywords that the code finds.
use Rattle.std.proofs.Common.{◌≡◌, ℕ, ◌<◌, ◌≤◌, ◌+◌, List, [], ◌∷◌, map, drop, get_or, length, Option, Some, None, refl, sym, ap, subst, ◌∙◌}
use Rattle.std.proofs.lemmas.List.{drop_all, drop_more}
use denote.Ref.{Bor}
use Rattle.constructs.specs.Pieces.{strip}
use Rattle.constructs.specs.Read.{Read, after_word}
use Rattle.cfgwords.specs.declared.fault.Fault.{Fault}
use Rattle.cfgitems.specs.Items.{Item}
use Rattle.constructs.specs.Construct.{then, again, ends, computes}
use Rattle.cfgkinds.specs.declared.kind.YaccKind.{YaccKind}
use Rattle.cfgreader.specs.declared.keywords.Declaration.{Declaration}
use Rattle.cfgreader.specs.declared.reader.Reader.{Reader}
use Rattle.cfgreader.specs.Here.{Turn}
use Rattle.cfgreader.specs.Keywords.{Keyword, one_of}
use Rattle.cfgreader.specs.Declarations.{declaration, own_declarations}
use Rattle.cfgreader.specs.Inner.Keywords.{IsKeywordHere, IsSequenceHere, declared, first_of, shown_sequence, with_value}

-- the loop over a table: the text begins with none of the words before i
pub record Passed (table : List (Bor (List ℕ) × Declaration)) (i : ℕ) (start now : Reader) : Type 0 where
  pub same : now ≡ start
  pub left : first_of (map shown_sequence (drop i table)) start.rest.now ≡ first_of (map shown_sequence table) start.rest.now

pub passed_all : (table : List (Bor (List ℕ) × Declaration)) (i : ℕ) (start now : Reader) → length table ≤ i → Passed table i start now
    → IsSequenceHere (map shown_sequence table) start now None
unfolding first_of
passed_all table i start now all so_far = (sym so_far.left ∙ ap (λ sequences. first_of (map shown_sequence sequences) start.rest.now) (drop_all i table all), so_far.same)

-- one row more
module _ (table : List (Bor (List ℕ) × Declaration)) (i : ℕ) (d : Bor (List ℕ) × Declaration) (within : i < length table) (start now next : Reader) (so_far : Passed table i start now) where
  left_by : (o : Option (List ℕ)) → strip (get_or table i d).0.now now.rest.now ≡ o
      → first_of (map shown_sequence table) start.rest.now ≡ with_value (get_or table i d).1 o (first_of (map shown_sequence (drop (i + 1) table)) start.rest.now)
  unfolding first_of
  left_by o found = sym so_far.left ∙ ap (λ sequences. first_of (map shown_sequence sequences) start.rest.now) (drop_more table i d within)
      ∙ ap (λ o. with_value (get_or table i d).1 o (first_of (map shown_sequence (drop (i + 1) table)) start.rest.now))
      (ap (λ (r : Reader). strip (get_or table i d).0.now r.rest.now) (sym so_far.same) ∙ found)

  pub passed_one : (strip (get_or table i d).0.now now.rest.now ≡ None) × (next ≡ now) → Passed table (i + 1) start next
  passed_one (none, same) = record { same = same ∙ so_far.same; left = sym (left_by None none) }

  pub found_here : (strip (get_or table i d).0.now now.rest.now ≡ Some next.rest.now) × (next.len ≡ now.len) × (next.tree ≡ now.tree)
      → IsSequenceHere (map shown_sequence table) start next (Some (get_or table i d).1)
  found_here (found, len, tree) = (left_by (Some next.rest.now) found, len ∙ ap (λ (r : Reader). r.len) so_far.same, tree ∙ ap (λ (r : Reader). r.tree) so_far.same)

-- What is read after a word of a table was found. The turn has these words as keywords, each after its `%`.
module _ (len : ℕ) (c : Turn (Unit {0})) where
  abbrev pub keyword_of : List ℕ × Declaration → Keyword
  keyword_of (word, declaration) = record { first = 37; others = drop 1 word; follows = declared len declaration }

  abbrev pub word_of : List ℕ × Declaration → List ℕ × Declaration
  word_of (word, declaration) = (37 ∷ drop 1 word, declaration)

  abbrev after_found : List ℕ → Option (Declaration × List ℕ) → Read Item Fault (Option (Unit {0}))
  after_found text (Some (found, rest)) = computes (then (declared len found).construct again) rest
  after_found text None = computes c text

  one_of_first : (words : List (List ℕ × Declaration)) (text : List ℕ) → computes (one_of (map keyword_of words) c) text ≡ after_found text (first_of (map word_of words) text)
  unfolding first_of
  one_of_first [] text = refl
  one_of_first ((word, declaration) ∷ words) text = go (one_of_first words text) (strip (37 ∷ drop 1 word) text)
    where
      go : computes (one_of (map keyword_of words) c) text ≡ after_found text (first_of (map word_of words) text)
          → (s : Option (List ℕ)) → after_word (computes (then (declared len declaration).construct again)) (computes (one_of (map keyword_of words) c) text) s
          ≡ after_found text (with_value declaration s (first_of (map word_of words) text))
      go further (Some rest) = refl
      go further None = further

  pub reads : (words : List (List ℕ × Declaration)) → map word_of words ≡ words → (text : List ℕ) (found : Option (Declaration × List ℕ)) → first_of words text ≡ found
      → computes (one_of (map keyword_of words) c) text ≡ after_found text found
  reads words proper text found e = one_of_first words text ∙ ap (λ words. after_found text (first_of words text)) proper ∙ ap (after_found text) e

-- the same, if only the keywords of one kind are left
pub own_found : (kind : YaccKind) (old now next : Reader) (words : List (List ℕ × Declaration)) (found : Option Declaration)
    → map (word_of old.len ends) words ≡ words → own_declarations old.len kind ≡ map (keyword_of old.len ends) words
    → computes (declaration old.len kind) old.rest.now ≡ computes (one_of (own_declarations old.len kind) ends) old.rest.now → now ≡ old
    → IsSequenceHere words now next found → IsKeywordHere kind old next found
own_found kind old now next words found proper own is same there = go found (subst (λ (r : Reader). IsSequenceHere words r next found) same there)
  where
    go : (found : Option Declaration) → IsSequenceHere words old next found → IsKeywordHere kind old next found
    go (Some found) here = (is ∙ ap (λ keywords. computes (one_of keywords ends) old.rest.now) own ∙ reads old.len ends words proper old.rest.now (Some (found, next.rest.now)) here.0, here.1, here.2)
    go None here = (is ∙ ap (λ keywords. computes (one_of keywords ends) old.rest.now) own ∙ reads old.len ends words proper old.rest.now None here.0, here.1)
