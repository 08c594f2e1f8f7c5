use Rattle.std.proofs.Common.{◌≡◌, ◌++◌, List, refl, append_assoc}
use Rattle.std.proofs.lemmas.Result.{on_ok_weaker}
use Rattle.text_findings.specs.Finding.{ShownFinding}
use Rattle.text_findings.proofs.file.push_file_findings.Goals as goal

joined : (a0 p e s k r d : List ShownFinding) {a1 a2 a3 a4 a5 a6 : List ShownFinding} → a1 ≡ a0 ++ p → a2 ≡ a1 ++ e → a3 ≡ a2 ++ s → a4 ≡ a3 ++ k → a5 ≡ a4 ++ r
    → a6 ≡ a5 ++ d → a6 ≡ a0 ++ (p ++ (e ++ (s ++ (k ++ (r ++ d)))))
joined a0 p e s k r d e1 e2 e3 e4 e5 e6 = simp (e6, e5, e4, e3, e2, e1, append_assoc)

pub returns : goal.returns
returns c =
    let (precedences, are_precedences, precedences_is) = c.in_ok-push_undefined_precedences.ensures in
    let (empty, are_empty, empty_is) = c.in_ok-push_missing_empty.ensures in
    let (swallowed, are_swallowed, swallowed_is) = c.in_ok-push_swallowed.ensures in
    let (keys, are_keys, keys_is) = c.in_ok-push_unknown_keys.ensures in
    let (references, are_references, references_is) = c.in_ok-push_unknown_references.ensures in
    on_ok_weaker c.push_unread_values.result
    (λ h. (
      precedences ++ (empty ++ (swallowed ++ (keys ++ (references ++ h.0)))),
      record {
        precedences = precedences;
        empty = empty;
        swallowed = swallowed;
        keys = keys;
        references = references;
        values = h.0;
        are_precedences = are_precedences;
        are_empty = are_empty;
        are_swallowed = are_swallowed;
        are_keys = are_keys;
        are_references = are_references;
        are_values = h.1;
        is = refl;
      },
      joined c.args.all.now.items precedences empty swallowed keys references h.0 precedences_is empty_is swallowed_is keys_is references_is h.2,
    ))
    c.push_unread_values.ensures
