use Rattle.std.proofs.Common.{◌≡◌, ◌++◌, List, length, map, refl, subst, ap, ◌∙◌, append_assoc}
use Rattle.cfgrammar.specs.Numbered.{Numbered}
use Rattle.cfgfindings.specs.Findings.{ReportsBelow, ReportsNeedless, ReportsNoSentence, ReportsUnusable, ReportsUnusableRule, ReportsUselessRule, ReportsUselessToken}
use Rattle.cfgfindings.specs.Shown.{ShownFinding, overridden_precedence, repeated_token}
use Rattle.cfgrammar.specs.TreeView.{syntax}
use Rattle.cfgfindings.proofs.found.push_findings.Goals as goal

joined : (a0 a1 a2 a3 a4 a5 a6 a7 a8 n t h w v u x y l r p d : List ShownFinding) → a1 ≡ a0 ++ (n ++ (t ++ h)) → a2 ≡ a1 ++ (w ++ v) → a3 ≡ a2 ++ u
    → a4 ≡ a3 ++ (x ++ y) → a5 ≡ a4 ++ l → a6 ≡ a5 ++ r → a7 ≡ a6 ++ p → a8 ≡ a7 ++ d
    → a8 ≡ a0 ++ (n ++ (t ++ (h ++ (w ++ (v ++ (u ++ (x ++ (y ++ (l ++ (r ++ (p ++ d)))))))))))
joined a0 a1 a2 a3 a4 a5 a6 a7 a8 n t h w v u x y l r p d e1 e2 e3 e4 e5 e6 e7 e8 =
    let all : a8 ≡ ((((((((a0 ++ (n ++ (t ++ h))) ++ (w ++ v)) ++ u) ++ (x ++ y)) ++ l) ++ r) ++ p) ++ d) =
    e8 ∙ ap (λ z. z ++ d) (e7 ∙ ap (λ z. z ++ p) (e6 ∙ ap (λ z. z ++ r) (e5 ∙ ap (λ z. z ++ l) (e4 ∙ ap (λ z. z ++ (x ++ y)) (e3 ∙ ap (λ z. z ++ u) (e2 ∙ ap (λ z. z ++ (w ++ v)) e1)))))) in
    all ∙ simp append_assoc

-- the lists that come last
joined_last : (a7 a8 a9 a10 a11 a12 a13 a14 a15 d t p r n e m o f b : List ShownFinding) → a8 ≡ a7 ++ d → a9 ≡ a8 ++ (t ++ (p ++ r)) → a10 ≡ a9 ++ n
    → a11 ≡ a10 ++ e → a12 ≡ a11 ++ m → a13 ≡ a12 ++ o → a14 ≡ a13 ++ f → a15 ≡ a14 ++ b
    → a15 ≡ a7 ++ (d ++ (t ++ (p ++ (r ++ (n ++ (e ++ (m ++ (o ++ (f ++ b)))))))))
joined_last a7 a8 a9 a10 a11 a12 a13 a14 a15 d t p r n e m o f b e8 e9 e10 e11 e12 e13 e14 e15 =
    let all : a15 ≡ (((((((a7 ++ d) ++ (t ++ (p ++ r))) ++ n) ++ e) ++ m) ++ o) ++ f) ++ b =
    e15 ∙ ap (λ z. z ++ b) (e14 ∙ ap (λ z. z ++ f) (e13 ∙ ap (λ z. z ++ o) (e12 ∙ ap (λ z. z ++ m) (e11 ∙ ap (λ z. z ++ e) (e10 ∙ ap (λ z. z ++ n) (e9 ∙ ap (λ z. z ++ (t ++ (p ++ r))) e8)))))) in
    all ∙ simp append_assoc

pub returns : goal.returns
returns c =
    let (rules, tokens, shadowed, are_rules, are_tokens, are_shadowed, unused_is) = c.in_ok-push_unused.ensures in
    let (unproductive_rules, unusable_rules, are_unproductive_rules, are_unusable_rules, unproductive_is) = c.in_ok-push_unproductive.ensures in
    let (unusable_productions, are_unusable_productions, unusable_is) = c.in_ok-push_unusable.ensures in
    let (useless_rules, useless_tokens, are_useless_rules, are_useless_tokens, useless_is) = c.in_ok-push_useless.ensures in
    let (cycles, are_cycles, cycles_is) = c.in_ok-push_cycles.ensures in
    let (repeats, are_repeats, repeats_is) = c.in_ok-push_repeats.ensures in
    let (precedences, are_precedences, precedences_is) = c.in_ok-push_precedences.ensures in
    let (glued_tokens, glued_precedences, glued_repeated, are_glued_tokens, are_glued_precedences, are_glued_repeated, glued_is) = c.in_ok-push_glued.ensures in
    let (needless, are_needless, needless_is) = c.in_ok-push_needless.ensures in
    let (escapes, are_escapes, escapes_is) = c.in_ok-push_escaped.ensures in
    let (empty, are_empty, empty_is) = c.in_ok-push_implicitly_empty.ensures in
    let (conflicts, are_conflicts, conflicts_is) = c.in_ok-push_conflicts.ensures in
    let (of_file, are_of_file, of_file_is) = c.in_ok-push_file_findings.ensures in
    let (of_bison, are_of_bison, of_bison_is) = c.in_ok-push_bison_findings.ensures in
    let seen : c.in_ok-unproductive.unproductive ≡ c.args.grammar.now = c.in_ok-unproductive.ensures in
    let declared = map repeated_token (syntax c.args.ast.now).repeated_tokens ++ map overridden_precedence (syntax c.args.ast.now).overridden_precedences in
    let last = declared ++ (glued_tokens ++ (glued_precedences ++ (glued_repeated ++ (needless ++ (escapes ++ (empty ++ (conflicts ++ (of_file ++ of_bison)))))))) in
    let before = c.push_bison_findings.new.all.items in
    let reported : List ShownFinding = rules ++ (tokens ++ (shadowed
    ++ (unproductive_rules ++ (unusable_rules ++ (unusable_productions ++ (useless_rules ++ (useless_tokens ++ (cycles ++ (repeats ++ (precedences ++ last)))))))))) in
    let last_is = joined_last c.push_precedences.new.all.items c.push_declarations.new.all.items c.push_glued.new.all.items c.push_needless.new.all.items
    c.push_escaped.new.all.items c.push_implicitly_empty.new.all.items c.push_conflicts.new.all.items c.push_file_findings.new.all.items before declared glued_tokens glued_precedences
    glued_repeated needless escapes empty conflicts of_file of_bison
    c.in_ok-push_declarations.ensures glued_is needless_is escapes_is empty_is conflicts_is of_file_is of_bison_is in
    let is = joined c.args.all.now.items c.push_unused.new.all.items c.push_unproductive.new.all.items c.push_unusable.new.all.items
    c.push_useless.new.all.items c.push_cycles.new.all.items c.push_repeats.new.all.items c.push_precedences.new.all.items before
    rules tokens shadowed unproductive_rules unusable_rules unusable_productions useless_rules useless_tokens cycles repeats precedences last
    unused_is unproductive_is unusable_is useless_is cycles_is repeats_is precedences_is last_is in (
      reported,
      record {
        unused_rules = rules;
        unused_tokens = tokens;
        shadowed = shadowed;
        unproductive_rules = unproductive_rules;
        unusable_rules = unusable_rules;
        unusable_productions = unusable_productions;
        useless_rules = useless_rules;
        useless_tokens = useless_tokens;
        cycles = cycles;
        repeats = repeats;
        precedences = precedences;
        glued_tokens = glued_tokens;
        glued_precedences = glued_precedences;
        glued_repeated_tokens = glued_repeated;
        needless = needless;
        escapes = escapes;
        empty = empty;
        conflicts = conflicts;
        of_file = of_file;
        of_bison = of_bison;
        are_unused_rules = are_rules;
        are_unused_tokens = are_tokens;
        are_shadowed = are_shadowed;
        are_unproductive_rules = subst (λ (g : Numbered). ReportsBelow (ReportsNoSentence (syntax c.args.ast.now) g) (length g.rules) unproductive_rules) seen are_unproductive_rules;
        are_unusable_rules = subst (λ (g : Numbered). ReportsBelow (ReportsUnusableRule (syntax c.args.ast.now) g) (length g.rules) unusable_rules) seen are_unusable_rules;
        are_unusable_productions = subst (λ (g : Numbered). ReportsBelow (ReportsUnusable g) g.start_production unusable_productions) seen are_unusable_productions;
        are_useless_rules = subst (λ (g : Numbered). ReportsBelow (ReportsUselessRule g) (length g.rules) useless_rules) seen are_useless_rules;
        are_useless_tokens = subst (λ (g : Numbered). ReportsBelow (ReportsUselessToken g) (length g.tokens) useless_tokens) seen are_useless_tokens;
        are_cycles = are_cycles;
        are_repeats = are_repeats;
        are_precedences = are_precedences;
        are_glued_tokens = are_glued_tokens;
        are_glued_precedences = are_glued_precedences;
        are_glued_repeated_tokens = are_glued_repeated;
        are_needless = subst (λ (g : Numbered). ReportsBelow (ReportsNeedless (syntax c.args.ast.now) g) (length (syntax c.args.ast.now).expect_unused) needless) seen are_needless;
        are_escapes = are_escapes;
        are_empty = are_empty;
        are_conflicts = are_conflicts;
        are_of_file = are_of_file;
        are_of_bison = are_of_bison;
        is = refl;
      },
      is,
    )
