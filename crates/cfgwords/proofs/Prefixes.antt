-- `prefix_of` finds how a text begins, and nothing else.
use Rattle.std.proofs.Common.{◌≡◌, ◌≢◌, ℕ, Bool, true, false, cond, List, [], ◌∷◌, ◌++◌, drop, Option, Some, None, refl, ap, sym, ◌∙◌, arith}
use Rattle.std.specs.Prelude.{codes}
use Rattle.std.proofs.lemmas.Bool.Decides.{nat_tests}
use Rattle.constructs.specs.Graph.{IsGraph}
use Rattle.constructs.specs.Pieces.{starts, run, strip, split_first}
use Rattle.constructs.proofs.PiecesLemmas.{strip_sound, strip_only, strip_none, strip_misses, IsRun-run, run_only, split_first_sound, split_first_none, split_first_only, split_first_misses}
use Rattle.cfgwords.specs.declared.bytes.ByteClass.TheVariants as bytes
use Rattle.cfgwords.specs.Bytes.{holds}
use Rattle.cfgwords.specs.Blank.{Prefix, Gap, LineComment, BlockComment, OpenComment, Bare, IsPrefix, comment_prefix, other_prefix, block_prefix, line_prefix, prefix_of}

-- What each function returns is how the text begins: a text that opens no comment,
other_sound : (text : List ℕ) → ((x : List ℕ) → text ≢ codes "//" ++ x) → ((x : List ℕ) → text ≢ codes "/*" ++ x) → IsPrefix text (other_prefix text)
other_sound [] line block = (refl, line, block)
other_sound (b ∷ rest) line block = go (holds bytes.Blank b) refl
  where
    go : (t : Bool) → holds bytes.Blank b ≡ t → IsPrefix (b ∷ rest) (cond t (Gap b rest) Bare)
    go true e = (refl, e)
    go false e = (e, line, block)

-- a block comment,
comment_sound : (text inside : List ℕ) → text ≡ codes "/*" ++ inside → (s : Option (List ℕ × List ℕ)) → split_first (codes "*/") inside ≡ s
    → IsPrefix text (comment_prefix inside s)
comment_sound text inside e (Some (body, rest)) e' = (inside, e, split_first_sound (codes "*/") inside body rest e')
comment_sound text inside e None e' = (e, split_first_none (codes "*/") inside e')

-- a text that opens no line comment,
block_sound : (text : List ℕ) → ((x : List ℕ) → text ≢ codes "//" ++ x) → (s : Option (List ℕ)) → strip (codes "/*") text ≡ s
    → IsPrefix text (block_prefix text s)
block_sound text line (Some inside) e = comment_sound text inside (strip_sound (codes "/*") text inside e) (split_first (codes "*/") inside) refl
block_sound text line None e = other_sound text line (strip_none (codes "/*") text e)

-- any text
line_sound : (text : List ℕ) (s : Option (List ℕ)) → strip (codes "//") text ≡ s → IsPrefix text (line_prefix text s)
line_sound text (Some inside) e =
    (inside, (run (holds bytes.Line) inside).0, (run (holds bytes.Line) inside).1, strip_sound (codes "//") text inside e, IsRun-run (holds bytes.Line) inside, refl)
line_sound text None e = block_sound text (strip_none (codes "//") text e) (strip (codes "/*") text) refl

-- how a text begins, by the bytes that open a comment
prefix_by_line : (text : List ℕ) (s : Option (List ℕ)) → strip (codes "//") text ≡ s → prefix_of text ≡ line_prefix text s
unfolding prefix_of
prefix_by_line text s e = ap (line_prefix text) e

prefix_by_block : (text : List ℕ) → ((x : List ℕ) → text ≢ codes "//" ++ x) → (s : Option (List ℕ)) → strip (codes "/*") text ≡ s
    → prefix_of text ≡ block_prefix text s
prefix_by_block text line s e = prefix_by_line text None (strip_misses (codes "//") text line) ∙ ap (block_prefix text) e

prefix_bare : (text : List ℕ) → ((x : List ℕ) → text ≢ codes "//" ++ x) → ((x : List ℕ) → text ≢ codes "/*" ++ x)
    → prefix_of text ≡ other_prefix text
prefix_bare text line block = prefix_by_block text line None (strip_misses (codes "/*") text block)

-- what opens a block comment doesn't open a line comment
block_apart : (text inside : List ℕ) → text ≡ codes "/*" ++ inside → (x : List ℕ) → text ≢ codes "//" ++ x
block_apart text inside e x h = cc

-- a byte of a blank opens no comment
blank_apart : (text : List ℕ) (b : ℕ) (rest : List ℕ) → text ≡ b ∷ rest → holds bytes.Blank b ≡ true → (c : ℕ) (x : List ℕ) → text ≢ 47 ∷ c ∷ x
blank_apart text b rest e h c x h' = let slash : b ≡ 47 = cc in grind (arith, nat_tests)

other_gap : (b : ℕ) (rest : List ℕ) → holds bytes.Blank b ≡ true → other_prefix (b ∷ rest) ≡ Gap b rest
other_gap b rest e = ap (λ t. cond t (Gap b rest) Bare) e

other_bare : (text : List ℕ) → starts (holds bytes.Blank) text ≡ false → other_prefix text ≡ Bare
other_bare [] e = refl
other_bare (b ∷ rest) e = ap (λ t. cond t (Gap b rest) Bare) e

-- a text begins as `prefix_of` says
prefix_only : (text : List ℕ) (prefix : Prefix) → IsPrefix text prefix → prefix_of text ≡ prefix
prefix_only text (Gap b rest) (e, h) =
    prefix_bare text (blank_apart text b rest e h 47) (blank_apart text b rest e h 42) ∙ ap other_prefix e ∙ other_gap b rest h
prefix_only text (LineComment rest) (inside, line, tail, e, r, e') =
    prefix_by_line text (Some inside) (strip_only (codes "//") text inside e)
    ∙ ap (λ x. LineComment (drop 1 x.1)) (run_only (holds bytes.Line) inside line tail r) ∙ ap LineComment (sym e')
prefix_only text (BlockComment body rest) (inside, e, f) =
    prefix_by_block text (block_apart text inside e) (Some inside) (strip_only (codes "/*") text inside e)
    ∙ ap (comment_prefix inside) (split_first_only (codes "*/") inside body rest f)
prefix_only text (OpenComment inside) (e, misses) =
    prefix_by_block text (block_apart text inside e) (Some inside) (strip_only (codes "/*") text inside e)
    ∙ ap (comment_prefix inside) (split_first_misses (codes "*/") inside misses)
prefix_only text Bare (e, line, block) = prefix_bare text line block ∙ other_bare text e

-- how a text begins is unique
pub prefix_graph : IsGraph IsPrefix prefix_of
unfolding prefix_of
prefix_graph = record { sound = λ text. line_sound text (strip (codes "//") text) refl; only = prefix_only }
