use Rattle.std.proofs.Common.{◌≡◌, ◌||◌, ℕ, Bool, true, false, if◌then◌else◌, List, codes, map, refl, sym, ap, ◌∙◌, rules}
use Rattle.std.specs.Cmp.Lexicographic.{bytes_decides}
use Rattle.std.specs.Str.{bytes_eq}
use Rattle.std.proofs.lemmas.List.{map_push}
use Rattle.cfglint_shell.specs.declared.arguments.Expected.TheVariants.{Argument, File}
use Rattle.cfglint_shell.specs.Inner.{options_view}
use Rattle.cfglint_shell.specs.Requests.{Goes, Help, Options, Stops, Version, is_option, with_argument, with_file_argument, with_option}
use Rattle.cfglint_shell.proofs.arguments.Options.take_argument.Goals.{in-text-4, in-text-5, in-text-6, in_default-2+in_ok-push-in_default-2}
use Rattle.cfglint_shell.proofs.arguments.Options.take_argument.Goals as goal

other : (word name : List ℕ) → (word ≡ name → ⊥) → bytes_eq word name ≡ false
other word name apart = go (bytes_eq word name) refl
  where
    go : (same : Bool) → bytes_eq word name ≡ same → same ≡ false
    go true e = absurd (apart ((bytes_decides word name).0 e))
    go false e = refl

-- an argument that is none of the words, and no option
file_taken : (options : Options) (argument : List ℕ) → (argument ≡ codes "-h" → ⊥) → (argument ≡ codes "--help" → ⊥) → (argument ≡ codes "--version" → ⊥)
    → (argument ≡ codes "--" → ⊥) → (argument ≡ codes "--deny-warnings" → ⊥) → (argument ≡ codes "--quiet" → ⊥) → (argument ≡ codes "--states" → ⊥)
    → is_option argument ≡ false → with_argument options argument ≡ Goes Argument (with_file_argument options argument)
unfolding with_argument
file_taken options argument short help version end denies quiet states file = λ i.
    if other argument (codes "-h") short i || other argument (codes "--help") help i then Stops Help
    else if other argument (codes "--version") version i then Stops Version
    else if other argument (codes "--") end i then Goes File options
    else if other argument (codes "--deny-warnings") denies i then Goes Argument (record options { denies = true })
    else if other argument (codes "--quiet") quiet i then Goes Argument (record options { is_quiet = true })
    else if other argument (codes "--states") states i then Goes Argument (record options { lint = record options.lint { shows_states = true } })
    else if file i then with_option options argument
    else Goes Argument (with_file_argument options argument)

pub returns : goal.returns
unfolding with_argument
returns c =
    elim c.match-argument.branch [
      | in-text-4 w ↦ search rules
      | in-text-5 w ↦ search rules
      | in-text-6 w ↦ search rules
      | in_default-2+in_ok-push-in_default-2 w ↦
          let old = c.args.self.now in
          let argument = c.args.argument.now in
          let not = w.in_default in
          let files = ap (map (λ file. file.now)) w.in_ok-push-in_default-2.ensures.items ∙ map_push (λ file. file.now) old.files.items c.args.argument in
          let taken = file_taken (options_view old) argument not.not-text not.not-text-2 not.not-text-3 not.not-text-4 not.not-text-5 not.not-text-6 not.not-text-7
          (sym w.is_option.ensures ∙ w.if-is_option.false) in
          ap (λ options. Goes Argument (options_view options)) w.self-is ∙ ap (λ (all : List (List ℕ)). Goes Argument (record (options_view old) { files = all })) files ∙ sym taken
    ]
