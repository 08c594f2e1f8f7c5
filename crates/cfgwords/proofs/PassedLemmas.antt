-- What `passed` gives is passed, and passing stops after it; the counter counts it step by step.
use Rattle.std.proofs.Common.{◌≡◌, ℕ, suc, ◌+◌, ◌<◌, ◌≤◌, Bool, true, false, cond, List, [], ◌∷◌, ◌++◌, length, take, drop, get_or, eqb, refl, sym, ap, subst, ◌∙◌, arith, drop-cons, ◌-◌, length-drop, eq-eqb, ◌⊎◌, inl, inr}
use Rattle.std.specs.Str.{IsCharBoundary}
use Rattle.std.proofs.lemmas.Bool.{cases_lt}
use Rattle.std.proofs.lemmas.Bool.Decides.{nat_tests}
use Rattle.std.proofs.lemmas.List.{drop-drop, take_rest}
use Rattle.std.proofs.lemmas.Str.{IsCharBoundary-before_ascii, IsCharBoundary-end}
use Rattle.cfgwords.specs.declared.passed.Passed.{Passed as Kind}
use Rattle.cfgwords.specs.declared.passed.Passed.TheVariants.{InString, BeforeColon, InQuotes}
use Rattle.cfgwords.specs.Passed.{passes_one, passes_two, IsPassed, nothing, one, two, step_len, stops, EndsInAscii, passed_len, passed}

-- bytes that are passed in pairs aren't passed one by one
two_apart : (kind : Kind) (b c : ℕ) → passes_two kind b c ≡ true → passes_one kind b ≡ false
two_apart (InString quote) b c h = grind (arith, nat_tests)
two_apart BeforeColon b c h = grind (arith, nat_tests)
two_apart InQuotes b c h = grind (arith, nat_tests)

-- where passing stops, neither one byte nor two are passed
pub stop_one : (kind : Kind) (b : ℕ) (rest : List ℕ) → stops kind (b ∷ rest) ≡ true → passes_one kind b ≡ false
stop_one kind b [] h = go (passes_one kind b) h
  where
    go : (t : Bool) → eqb (cond t 1 0) 0 ≡ true → t ≡ false
    go true h = cc
    go false h = refl
stop_one kind b (c ∷ rest) h = go (passes_one kind b) h
  where
    go : (t : Bool) → eqb (cond t 1 (cond (passes_two kind b c) 2 0)) 0 ≡ true → t ≡ false
    go true h = cc
    go false h = refl

pub stop_two : (kind : Kind) (b c : ℕ) (rest : List ℕ) → stops kind (b ∷ c ∷ rest) ≡ true → passes_two kind b c ≡ false
stop_two kind b c rest h = go (passes_one kind b) (passes_two kind b c) h
  where
    go : (t u : Bool) → eqb (cond t 1 (cond u 2 0)) 0 ≡ true → u ≡ false
    go true true h = cc
    go t false h = refl
    go false true h = cc

-- how much is passed, by the bytes at the start
len_one : (kind : Kind) (b : ℕ) (rest : List ℕ) → passes_one kind b ≡ true → passed_len kind (b ∷ rest) ≡ suc (passed_len kind rest)
unfolding passed_len
len_one kind b [] h = ap (λ t. cond t 1 0) h
len_one kind b (c ∷ rest) h = ap (λ t. cond t (suc (passed_len kind (c ∷ rest))) (cond (passes_two kind b c) (suc (suc (passed_len kind rest))) 0)) h

len_two : (kind : Kind) (b c : ℕ) (rest : List ℕ) → passes_one kind b ≡ false → passes_two kind b c ≡ true
    → passed_len kind (b ∷ c ∷ rest) ≡ suc (suc (passed_len kind rest))
unfolding passed_len
len_two kind b c rest h h' =
    ap (λ t. cond t (suc (passed_len kind (c ∷ rest))) (cond (passes_two kind b c) (suc (suc (passed_len kind rest))) 0)) h
    ∙ ap (λ t. cond t (suc (suc (passed_len kind rest))) 0) h'

len_none : (kind : Kind) (b c : ℕ) (rest : List ℕ) → passes_one kind b ≡ false → passes_two kind b c ≡ false → passed_len kind (b ∷ c ∷ rest) ≡ 0
unfolding passed_len
len_none kind b c rest h h' =
    ap (λ t. cond t (suc (passed_len kind (c ∷ rest))) (cond (passes_two kind b c) (suc (suc (passed_len kind rest))) 0)) h
    ∙ ap (λ t. cond t (suc (suc (passed_len kind rest))) 0) h'

len_stop : (kind : Kind) (text : List ℕ) → stops kind text ≡ true → passed_len kind text ≡ 0
unfolding passed_len
len_stop kind [] h = refl
len_stop kind (b ∷ []) h = ap (λ t. cond t 1 0) (stop_one kind b [] h)
len_stop kind (b ∷ c ∷ rest) h = len_none kind b c rest (stop_one kind b (c ∷ rest) h) (stop_two kind b c rest h)

len_within : (kind : Kind) (text : List ℕ) → passed_len kind text ≤ length text
unfolding passed_len
len_within kind [] = omega arith
len_within kind (b ∷ []) = go (passes_one kind b)
  where
    go : (t : Bool) → cond t 1 0 ≤ 1
    go true = omega arith
    go false = omega arith
len_within kind (b ∷ c ∷ rest) = go (len_within kind (c ∷ rest)) (len_within kind rest) (passes_one kind b) (passes_two kind b c)
  where
    go : passed_len kind (c ∷ rest) ≤ suc (length rest) → passed_len kind rest ≤ length rest → (t u : Bool)
        → cond t (suc (passed_len kind (c ∷ rest))) (cond u (suc (suc (passed_len kind rest))) 0) ≤ suc (suc (length rest))
    go first second true u = omega arith
    go first second false true = omega arith
    go first second false false = omega arith

-- step by step
pub step_passed : (kind : Kind) (text : List ℕ) → step_len kind text + passed_len kind (drop (step_len kind text) text) ≡ passed_len kind text
step_passed kind [] = omega arith
step_passed kind (b ∷ []) = go (passes_one kind b) refl
  where
    go : (t : Bool) → passes_one kind b ≡ t → step_len kind (b ∷ []) + passed_len kind (drop (step_len kind (b ∷ [])) (b ∷ [])) ≡ passed_len kind (b ∷ [])
    go true h = rw h (omega (arith, len_one kind b [] h))
    go false h = rw h (omega arith)
step_passed kind (b ∷ c ∷ rest) = go (passes_one kind b) refl (passes_two kind b c) refl
  where
    go : (t : Bool) → passes_one kind b ≡ t → (u : Bool) → passes_two kind b c ≡ u
        → step_len kind (b ∷ c ∷ rest) + passed_len kind (drop (step_len kind (b ∷ c ∷ rest)) (b ∷ c ∷ rest)) ≡ passed_len kind (b ∷ c ∷ rest)
    go true h u h' = rw h (omega (arith, len_one kind b (c ∷ rest) h))
    go false h true h' = rw (h, h') (omega (arith, len_two kind b c rest h h'))
    go false h false h' = rw (h, h') (omega arith)

pub step_within : (kind : Kind) (text : List ℕ) → step_len kind text ≤ length text
step_within kind [] = omega arith
step_within kind (b ∷ []) = go (passes_one kind b)
  where
    go : (t : Bool) → cond t 1 0 ≤ 1
    go true = omega arith
    go false = omega arith
step_within kind (b ∷ c ∷ rest) = go (passes_one kind b) (passes_two kind b c)
  where
    go : (t u : Bool) → cond t 1 (cond u 2 0) ≤ suc (suc (length rest))
    go true u = omega arith
    go false true = omega arith
    go false false = omega arith

-- What a counter knows after i bytes, if step more are passed next: its count and what is passed of the rest make up the whole.
pub record IsCounted (kind : Kind) (text : List ℕ) (i step : ℕ) : Type 0 where
  pub within : i ≤ length text
  pub next : step ≡ step_len kind (drop i text)
  pub counted : i + passed_len kind (drop i text) ≡ passed_len kind text

pub counted_start : (kind : Kind) (text : List ℕ) (step : ℕ) → step ≡ step_len kind text → IsCounted kind text 0 step
counted_start kind text step e = record { within = omega arith; next = e; counted = omega arith }

pub counted_within : (kind : Kind) (text : List ℕ) (i step : ℕ) → IsCounted kind text i step → i + step ≤ length text
counted_within kind text i step c = omega (arith, c.within, c.next, step_within kind (drop i text), length-drop i text)

pub counted_on : (kind : Kind) (text : List ℕ) (i step more : ℕ) → IsCounted kind text i step
    → more ≡ step_len kind (take (length text - (i + step)) (drop (i + step) text)) → IsCounted kind text (i + step) more
counted_on kind text i step more c e = record {
  within = counted_within kind text i step c;
  next = rw take_rest at e;
  counted =
      let on : step + passed_len kind (drop (i + step) text) ≡ passed_len kind (drop i text) =
      ap (λ x. step + passed_len kind x) (sym (drop-drop step i text))
      ∙ subst (λ n. n + passed_len kind (drop n (drop i text)) ≡ passed_len kind (drop i text)) (sym c.next) (step_passed kind (drop i text)) in
      omega (arith, on, c.counted);
}

pub counted_end : (kind : Kind) (text : List ℕ) (i step : ℕ) → IsCounted kind text i step → step ≤ 0 → i ≡ passed_len kind text
counted_end kind text i step c none =
    let ended : step_len kind (drop i text) ≡ 0 = omega (arith, c.next) in
    omega (arith, c.counted, len_stop kind (drop i text) (eq-eqb _ _ ended))

-- what is passed, and the rest where passing stops
pub record IsStopped (kind : Kind) (text : List ℕ) (parts : List ℕ × List ℕ) : Type 0 where
  pub whole : text ≡ parts.0 ++ parts.1
  pub passes : IsPassed kind parts.0
  pub ends : stops kind parts.1 ≡ true

-- `passed`, by the bytes at the start
passed_one : (kind : Kind) (b : ℕ) (rest : List ℕ) → passes_one kind b ≡ true → passed kind (b ∷ rest) ≡ (b ∷ (passed kind rest).0, (passed kind rest).1)
passed_one kind b rest h = ap (λ n. (take n (b ∷ rest), drop n (b ∷ rest))) (len_one kind b rest h)

passed_two : (kind : Kind) (b c : ℕ) (rest : List ℕ) → passes_two kind b c ≡ true
    → passed kind (b ∷ c ∷ rest) ≡ (b ∷ c ∷ (passed kind rest).0, (passed kind rest).1)
passed_two kind b c rest h = ap (λ n. (take n (b ∷ c ∷ rest), drop n (b ∷ c ∷ rest))) (len_two kind b c rest (two_apart kind b c h) h)

passed_stop : (kind : Kind) (text : List ℕ) → stops kind text ≡ true → passed kind text ≡ ([], text)
passed_stop kind text h = ap (λ n. (take n text, drop n text)) (len_stop kind text h)

stopped_here : (kind : Kind) (text : List ℕ) → stops kind text ≡ true → IsStopped kind text (passed kind text)
stopped_here kind text h = subst (IsStopped kind text) (sym (passed_stop kind text h)) (record { whole = refl; passes = nothing; ends = h })

stopped_one : (kind : Kind) (b : ℕ) (rest : List ℕ) → passes_one kind b ≡ true → IsStopped kind rest (passed kind rest) → IsStopped kind (b ∷ rest) (passed kind (b ∷ rest))
stopped_one kind b rest h s = subst (IsStopped kind (b ∷ rest)) (sym (passed_one kind b rest h))
    (record { whole = ap (λ x. b ∷ x) s.whole; passes = one b _ h s.passes; ends = s.ends })

stopped_two : (kind : Kind) (b c : ℕ) (rest : List ℕ) → passes_two kind b c ≡ true → IsStopped kind rest (passed kind rest)
    → IsStopped kind (b ∷ c ∷ rest) (passed kind (b ∷ c ∷ rest))
stopped_two kind b c rest h s = subst (IsStopped kind (b ∷ c ∷ rest)) (sym (passed_two kind b c rest h))
    (record { whole = ap (λ x. b ∷ c ∷ x) s.whole; passes = two b c _ h s.passes; ends = s.ends })

-- `passed` gives what is passed
pub passed_stopped : (kind : Kind) (text : List ℕ) → IsStopped kind text (passed kind text)
passed_stopped kind [] = stopped_here kind [] refl
passed_stopped kind (b ∷ []) = go (passes_one kind b) refl
  where
    go : (t : Bool) → passes_one kind b ≡ t → IsStopped kind (b ∷ []) (passed kind (b ∷ []))
    go true h = stopped_one kind b [] h (stopped_here kind [] refl)
    go false h = stopped_here kind (b ∷ []) (ap (λ t. eqb (cond t 1 0) 0) h)
passed_stopped kind (b ∷ c ∷ rest) = go (passed_stopped kind (c ∷ rest)) (passed_stopped kind rest) (passes_one kind b) refl (passes_two kind b c) refl
  where
    go : IsStopped kind (c ∷ rest) (passed kind (c ∷ rest)) → IsStopped kind rest (passed kind rest)
        → (t : Bool) → passes_one kind b ≡ t → (u : Bool) → passes_two kind b c ≡ u → IsStopped kind (b ∷ c ∷ rest) (passed kind (b ∷ c ∷ rest))
    go first second true h u h' = stopped_one kind b (c ∷ rest) h first
    go first second false h true h' = stopped_two kind b c rest h' second
    go first second false h false h' = stopped_here kind (b ∷ c ∷ rest)
        (ap (λ t. eqb (cond t 1 (cond (passes_two kind b c) 2 0)) 0) h ∙ ap (λ t. eqb (cond t 2 0) 0) h')

-- and nothing else is
pub passed_only : (kind : Kind) (inside left : List ℕ) → IsPassed kind inside → stops kind left ≡ true → passed kind (inside ++ left) ≡ (inside, left)
passed_only kind inside left nothing ends = passed_stop kind left ends
passed_only kind inside left (one b rest h more) ends =
    passed_one kind b (rest ++ left) h ∙ ap (λ (x : List ℕ × List ℕ). (b ∷ x.0, x.1)) (passed_only kind rest left more ends)
passed_only kind inside left (two b c rest h more) ends =
    passed_two kind b c (rest ++ left) h ∙ ap (λ (x : List ℕ × List ℕ). (b ∷ c ∷ x.0, x.1)) (passed_only kind rest left more ends)

-- passing stops at the end, or before an ASCII byte,
pub stop_ascii : (kind : Kind) (b : ℕ) (rest : List ℕ) → EndsInAscii kind → stops kind (b ∷ rest) ≡ true → b < 128
stop_ascii (InString quote) b rest ascii h = let refused = stop_one (InString quote) b rest h in grind (arith, nat_tests, refused)
stop_ascii BeforeColon b rest ascii h = let refused = stop_one BeforeColon b rest h in grind (arith, nat_tests, refused)
stop_ascii InQuotes b rest ascii h = let refused = stop_one InQuotes b rest h in grind (arith, nat_tests, refused)

-- so the text may be cut there
pub passed_boundary : (kind : Kind) (text : List ℕ) → EndsInAscii kind → (n : ℕ) → n ≡ passed_len kind text → IsCharBoundary text n
passed_boundary kind text ascii n e = go (cases_lt n (length text))
  where
    ends : stops kind (drop n text) ≡ true
    ends = rw e (passed_stopped kind text).ends

    go : (n < length text) ⊎ (length text ≤ n) → IsCharBoundary text n
    go (inl within) = IsCharBoundary-before_ascii text n within
        (stop_ascii kind (get_or text n 0) (drop (suc n) text) ascii (subst (λ x. stops kind x ≡ true) (drop-cons text n 0 within) ends))
    go (inr over) =
        let ended : length text ≡ n = omega (arith, len_within kind text) in
        subst (IsCharBoundary text) ended (IsCharBoundary-end text)
