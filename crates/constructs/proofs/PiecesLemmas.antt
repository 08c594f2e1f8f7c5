-- The functions of Pieces find what its relations say, and nothing else.
use Rattle.std.proofs.Common.{◌≡◌, ℕ, suc, ◌+◌, ◌<◌, ◌≤◌, Bool, true, false, cond, List, [], ◌∷◌, ◌++◌, length, take, drop, Option, Some, None, eqb, refl, ap, ap₂, subst, sym, ◌∙◌, ◌≢◌, ◌&&◌, arith, eqb-true, eq-eqb, one-add, take_at, drop_at, length-append, length-drop, append_assoc}
use Rattle.std.proofs.lemmas.List.{append_cancel_left}
use Rattle.std.specs.List.{prefix_len, list_all}
use Rattle.constructs.specs.Pieces.{starts, IsRun, run, strip, IsFirst, with_first, found_here, split_first}

-- `strip` with two first bytes, by whether they are the same
pub strip_same : (c b : ℕ) (word text : List ℕ) → c ≡ b → strip (c ∷ word) (b ∷ text) ≡ strip word text
strip_same c b word text e = ap (λ t. cond t (strip word text) None) (eq-eqb c b e)

-- what `strip` leaves comes after the word
pub strip_sound : (word text rest : List ℕ) → strip word text ≡ Some rest → text ≡ word ++ rest
strip_sound [] text rest e = cc
strip_sound (c ∷ word) [] rest e = cc
strip_sound (c ∷ word) (b ∷ text) rest e = go (strip_sound word text rest) (eqb c b) refl e
  where
    go : (strip word text ≡ Some rest → text ≡ word ++ rest)
        → (t : Bool) → eqb c b ≡ t → cond t (strip word text) None ≡ Some rest → b ∷ text ≡ (c ∷ word) ++ rest
    go further true h h' = let same : c ≡ b = eqb-true c b h in let after : text ≡ word ++ rest = further h' in cc
    go further false h h' = cc

-- `strip` finds the word that the text begins with
pub strip_only : (word text rest : List ℕ) → text ≡ word ++ rest → strip word text ≡ Some rest
strip_only [] text rest e = ap Some e
strip_only (c ∷ word) [] rest e = cc
strip_only (c ∷ word) (b ∷ text) rest e =
    let same : c ≡ b = cc in
    let after : text ≡ word ++ rest = cc in
    strip_same c b word text same ∙ strip_only word text rest after

-- if `strip` finds nothing, the text doesn't begin with the word
pub strip_none : (word text : List ℕ) → strip word text ≡ None → (rest : List ℕ) → text ≢ word ++ rest
strip_none word text e rest h = let found : strip word text ≡ Some rest = strip_only word text rest h in cc

-- if the text doesn't begin with the word, `strip` finds nothing
pub strip_misses : (word text : List ℕ) → ((rest : List ℕ) → text ≢ word ++ rest) → strip word text ≡ None
strip_misses word text misses = go (strip word text) refl
  where
    go : (o : Option (List ℕ)) → strip word text ≡ o → o ≡ None
    go (Some rest) e = absurd (misses rest (strip_sound word text rest e))
    go None e = refl

-- what `strip` leaves is shorter by the word's length
pub strip_length : (word text rest : List ℕ) → strip word text ≡ Some rest → length text ≡ length word + length rest
strip_length word text rest e = ap length (strip_sound word text rest e) ∙ length-append word rest

-- `run` at a byte that passes the test
pub run_on : (test : ℕ → Bool) (b : ℕ) (text : List ℕ) → test b ≡ true → run test (b ∷ text) ≡ (b ∷ (run test text).0, (run test text).1)
run_on test b text e =
    let n : prefix_len test (b ∷ text) ≡ suc (prefix_len test text) = ap (λ t. cond t (1 + prefix_len test text) 0) e ∙ one-add (prefix_len test text) in
    ap (λ n. (take n (b ∷ text), drop n (b ∷ text))) n

-- `run` at a byte that doesn't
pub run_off : (test : ℕ → Bool) (b : ℕ) (text : List ℕ) → test b ≡ false → run test (b ∷ text) ≡ ([], b ∷ text)
run_off test b text e = ap (λ t. let n : ℕ = cond t (1 + prefix_len test text) 0 in (take n (b ∷ text), drop n (b ∷ text))) e

-- `run` gives the longest prefix of bytes that pass the test
pub IsRun-run : (test : ℕ → Bool) (text : List ℕ) → IsRun test text (run test text).0 (run test text).1
IsRun-run test [] = record { whole = refl; passes = refl; longest = refl }
IsRun-run test (b ∷ text) = go (IsRun-run test text) (test b) refl
  where
    go : IsRun test text (run test text).0 (run test text).1 → (t : Bool) → test b ≡ t
        → IsRun test (b ∷ text) (run test (b ∷ text)).0 (run test (b ∷ text)).1
    go ih true e = subst (λ (x : List ℕ × List ℕ). IsRun test (b ∷ text) x.0 x.1) (sym (run_on test b text e)) (record {
      whole = ap (λ x. b ∷ x) ih.whole;
      passes = ap (λ t. t && list_all test (run test text).0) e ∙ ih.passes;
      longest = ih.longest;
    })
    go ih false e = subst (λ (x : List ℕ × List ℕ). IsRun test (b ∷ text) x.0 x.1) (sym (run_off test b text e)) (record {
      whole = refl;
      passes = refl;
      longest = e;
    })

-- bytes that pass the test, before one that doesn't
pub prefix_len-run : (test : ℕ → Bool) (piece rest : List ℕ) → list_all test piece ≡ true → starts test rest ≡ false
    → prefix_len test (piece ++ rest) ≡ length piece
prefix_len-run test [] [] passes longest = refl
prefix_len-run test [] (b ∷ rest) passes longest = ap (λ t. cond t (1 + prefix_len test rest) 0) longest
prefix_len-run test (b ∷ piece) rest passes longest = go (λ h. prefix_len-run test piece rest h longest) (test b) passes
  where
    go : (list_all test piece ≡ true → prefix_len test (piece ++ rest) ≡ length piece)
        → (t : Bool) → (t && list_all test piece) ≡ true → cond t (1 + prefix_len test (piece ++ rest)) 0 ≡ suc (length piece)
    go ih true h = one-add _ ∙ ap suc (ih h)
    go ih false h = cc

-- the longest prefix is the one that `run` gives
pub run_only : (test : ℕ → Bool) (text piece rest : List ℕ) → IsRun test text piece rest → run test text ≡ (piece, rest)
run_only test text piece rest r =
    let n = prefix_len-run test piece rest r.passes r.longest in
    ap (run test) r.whole ∙ ap₂ (λ x y. (x, y)) (take_at piece rest _ (sym n)) (drop_at piece rest _ (sym n))

-- the rest after a run is no longer than the text
pub run_no_longer : (test : ℕ → Bool) (text : List ℕ) → length (run test text).1 ≤ length text
run_no_longer test text = simp length-drop (omega arith)

-- and it is shorter if the first byte passes the test
pub run_shorter : (test : ℕ → Bool) (text : List ℕ) → starts test text ≡ true → length (run test text).1 < length text
run_shorter test [] e = cc
run_shorter test (b ∷ text) e = let shorter = run_no_longer test text in subst (λ x. length x.1 < suc (length text)) (sym (run_on test b text e)) (omega arith)

-- a needle at the start is the first
pub found_at_prefix : (needle text rest : List ℕ) → strip needle text ≡ Some rest → IsFirst needle text [] rest
found_at_prefix needle text rest e = record { whole = strip_sound needle text rest e; first = λ x y h. omega arith }

-- if the text doesn't begin with the needle, the first one after its first byte is the first
pub IsFirst-more : (needle : List ℕ) (b : ℕ) (text body rest : List ℕ) → strip needle (b ∷ text) ≡ None → IsFirst needle text body rest
    → IsFirst needle (b ∷ text) (b ∷ body) rest
IsFirst-more needle b text body rest e f = record { whole = ap (λ x. b ∷ x) f.whole; first = first }
  where
    first : (x y : List ℕ) → b ∷ text ≡ x ++ needle ++ y → length (b ∷ body) ≤ length x
    first [] y h = absurd (strip_none needle (b ∷ text) e y h)
    first (c ∷ x) y h = let after : text ≡ x ++ needle ++ y = cc in let less = f.first x y after in omega arith

-- an empty text that doesn't begin with a needle has none
pub misses_in_nil : (needle : List ℕ) → strip needle [] ≡ None → (x y : List ℕ) → [] ≢ x ++ needle ++ y
misses_in_nil needle e [] y h = strip_none needle [] e y h
misses_in_nil needle e (c ∷ x) y h = cc

-- nor does a text that has none at its start and none after its first byte
pub misses_more : (needle : List ℕ) (b : ℕ) (text : List ℕ) → strip needle (b ∷ text) ≡ None → ((x y : List ℕ) → text ≢ x ++ needle ++ y)
    → (x y : List ℕ) → b ∷ text ≢ x ++ needle ++ y
misses_more needle b text e misses [] y h = strip_none needle (b ∷ text) e y h
misses_more needle b text e misses (c ∷ x) y h = let after : text ≡ x ++ needle ++ y = cc in misses x y after

-- what a split at the first needle says about a text
abbrev pub SplitsFirst : List ℕ → List ℕ → Option (List ℕ × List ℕ) → Type 0
SplitsFirst needle text (Some (body, rest)) = IsFirst needle text body rest
SplitsFirst needle text None = (x y : List ℕ) → text ≢ x ++ needle ++ y

-- `split_first` says so
pub SplitsFirst-split_first : (needle text : List ℕ) → SplitsFirst needle text (split_first needle text)
unfolding split_first
SplitsFirst-split_first needle [] = go (strip needle []) refl
  where
    go : (s : Option (List ℕ)) → strip needle [] ≡ s → SplitsFirst needle [] (found_here s None)
    go (Some rest) e = found_at_prefix needle [] rest e
    go None e = misses_in_nil needle e
SplitsFirst-split_first needle (b ∷ text) = go (strip needle (b ∷ text)) refl (split_first needle text) (SplitsFirst-split_first needle text)
  where
    go : (s : Option (List ℕ)) → strip needle (b ∷ text) ≡ s → (o : Option (List ℕ × List ℕ)) → SplitsFirst needle text o
        → SplitsFirst needle (b ∷ text) (found_here s (with_first b o))
    go (Some rest) e o ih = found_at_prefix needle (b ∷ text) rest e
    go None e (Some (body, rest)) ih = IsFirst-more needle b text body rest e ih
    go None e None ih = misses_more needle b text e ih

-- `split_first` gives the first needle
pub split_first_sound : (needle text body rest : List ℕ) → split_first needle text ≡ Some (body, rest) → IsFirst needle text body rest
split_first_sound needle text body rest e = subst (SplitsFirst needle text) e (SplitsFirst-split_first needle text)

-- if `split_first` gives nothing, there is no needle
pub split_first_none : (needle text : List ℕ) → split_first needle text ≡ None → (x y : List ℕ) → text ≢ x ++ needle ++ y
split_first_none needle text e = subst (SplitsFirst needle text) e (SplitsFirst-split_first needle text)

-- if there is no needle, `split_first` gives nothing
pub split_first_misses : (needle text : List ℕ) → ((x y : List ℕ) → text ≢ x ++ needle ++ y) → split_first needle text ≡ None
split_first_misses needle text misses = go (split_first needle text) (SplitsFirst-split_first needle text)
  where
    go : (o : Option (List ℕ × List ℕ)) → SplitsFirst needle text o → o ≡ None
    go (Some (body, rest)) f = absurd (misses body rest f.whole)
    go None f = refl

-- the first needle is unique
pub IsFirst-one : (needle text body rest body' rest' : List ℕ) → IsFirst needle text body rest → IsFirst needle text body' rest'
    → (body ≡ body') × (rest ≡ rest')
IsFirst-one needle text body rest body' rest' f f' = (bodies, rests)
  where
    grouped : (x y : List ℕ) → text ≡ x ++ needle ++ y → text ≡ x ++ (needle ++ y)
    grouped x y e = e ∙ append_assoc x needle y

    same : length body' ≡ length body
    same = let less = f.first body' rest' f'.whole in let more = f'.first body rest f.whole in omega arith

    bodies : body ≡ body'
    bodies = sym (take_at body (needle ++ rest) _ refl) ∙ ap (take (length body)) (sym (grouped body rest f.whole) ∙ grouped body' rest' f'.whole)
        ∙ take_at body' (needle ++ rest') _ same

    rests : rest ≡ rest'
    rests = append_cancel_left (body ++ needle) rest rest' (sym f.whole ∙ f'.whole ∙ ap (λ x. x ++ needle ++ rest') (sym bodies))

-- `split_first` finds the first needle
pub split_first_only : (needle text body rest : List ℕ) → IsFirst needle text body rest → split_first needle text ≡ Some (body, rest)
split_first_only needle text body rest f = go (split_first needle text) (SplitsFirst-split_first needle text)
  where
    go : (o : Option (List ℕ × List ℕ)) → SplitsFirst needle text o → o ≡ Some (body, rest)
    go (Some (body', rest')) f' = let same = IsFirst-one needle text body' rest' body rest f' f in ap₂ (λ x y. Some (x, y)) same.0 same.1
    go None misses = absurd (misses body rest f.whole)

-- the parts together are as long as the text
pub split_first_length : (needle text body rest : List ℕ) → split_first needle text ≡ Some (body, rest)
    → length text ≡ length body + length needle + length rest
split_first_length needle text body rest e = ap length (split_first_sound needle text body rest e).whole
    ∙ length-append (body ++ needle) rest ∙ ap (λ n. n + length rest) (length-append body needle)
