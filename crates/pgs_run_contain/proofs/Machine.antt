-- The machine of the two texts tells what `told_texts` says.
use Rattle.std.proofs.Common.{◌≡◌, ◌⊎◌, inl, inr, ℕ, Bool, false, true, not, cond, nat_le, List, [], ◌∷◌, ◌++◌, length, Result, Ok, Err, refl, sym, ap, subst, ◌∙◌}
use Rattle.std.specs.List.{join_with_byte}
use Rattle.pgs_run_lines.specs.Machine.{Told, Going, told_by, status_at_cut}
use Rattle.pgs_run_lines.specs.Telling.{telling}
use Rattle.pgs_run_lines.proofs.Fronts.{front_none}
use Rattle.pgs_syntax.specs.declared.resolved.Resolved.{Resolved}
use Rattle.pgs_answer.specs.Lines.{schema_refused_line}
use Rattle.pgs_run_input.specs.Answers.{schema_answer}
use Rattle.pgs_run_input.specs.Input.{text_limit, text_front, is_separator, schema_part, after_separator}
use Rattle.pgs_run_input.specs.Judged.{pieces_of_schema}
use Rattle.pgs_run_input.specs.Part.{Part, with_line, has_none}
use Rattle.pgs_run_input.proofs.ByLines.{EndsIn, TellsLines, by_lines}
use Rattle.pgs_run_input.proofs.Joining.{has_some, begun_more, text_of_more}
use Rattle.pgs_run_input.proofs.SameFronts.{separator_of_front, schema_so_far}
use Rattle.pgs_run_input.proofs.Separating.{HasOne, HasNo, none_more, one_first, one_more, before-append, after-append, before-first, after-first, before-none, after-none}
use Rattle.pgs_run_contain.specs.declared.ending.Ending.{Ending}
use Rattle.pgs_run_contain.specs.declared.ending.Ending.TheVariants as endings
use Rattle.pgs_run_contain.specs.declared.phase.Phase.{Phase}
use Rattle.pgs_run_contain.specs.declared.phase.Phase.TheVariants.{First, Second, Refused}
use Rattle.pgs_run_contain.specs.Comparing.{comparing, compare_teller, first_phase, after_first, after_end, pieces_at_end, next_of, told_after}
use Rattle.pgs_run_contain.specs.Names.{Names, names_in}
use Rattle.pgs_run_contain.specs.Told.{refused_by, told_first, told_second, second_part, told_lines, told_texts}

abbrev told_of : List (List ℕ) → Ending → Told Ending
told_of pieces status = record { pieces = pieces; status = status }

-- the text of lines
abbrev text_of : List (List ℕ) → List ℕ
text_of lines = join_with_byte 10 lines

-- ---- what lines tell, by what is known of them

told_with : (whole : Bool) (lines : List (List ℕ)) → HasOne lines → told_lines whole lines ≡ told_first whole (text_front (schema_part lines)) (schema_answer (schema_part lines)) (second_part lines)
told_with true lines has = refl
told_with false lines has = rw has refl

told_found : (whole : Bool) (lines : List (List ℕ)) (found : Result Resolved (List ℕ)) → HasOne lines → schema_answer (schema_part lines) ≡ found → told_lines whole lines ≡ told_first whole (text_front (schema_part lines)) found (second_part lines)
told_found whole lines found has is =
    told_with whole lines has ∙ ap (λ (answer : Result Resolved (List ℕ)). told_first whole (text_front (schema_part lines)) answer (second_part lines)) is

told_refused : (whole : Bool) (lines : List (List ℕ)) (refusal : List ℕ) → HasOne lines → schema_answer (schema_part lines) ≡ Err refusal → told_lines whole lines ≡ refused_by (schema_refused_line refusal) (text_front (schema_part lines))
told_refused true lines refusal has is = told_found true lines (Err refusal) has is
told_refused false lines refusal has is = told_found false lines (Err refusal) has is

told_without : (lines : List (List ℕ)) → HasNo lines → told_lines false lines ≡ told_of [] endings.Cut
told_without lines none = rw none refl

-- the first text stays behind its separator
found_more : (lines : List (List ℕ)) (line : List ℕ) (found : Result Resolved (List ℕ)) → HasOne lines → schema_answer (schema_part lines) ≡ found → schema_answer (schema_part (lines ++ line ∷ [])) ≡ found
found_more lines line found has is = ap (λ ls. schema_answer (text_of ls)) (before-append lines (line ∷ []) has) ∙ is

found_first : (lines : List (List ℕ)) (end : List ℕ) (found : Result Resolved (List ℕ)) → HasNo lines → is_separator end ≡ true → schema_answer (text_of lines) ≡ found → schema_answer (schema_part (lines ++ end ∷ [])) ≡ found
found_first lines end found none is e = ap (λ ls. schema_answer (text_of ls)) (before-first lines end is none) ∙ e

-- ---- where lines lead

record InFirst (lines : List (List ℕ)) (part : Part) : Type 0 where
  pub none : HasNo lines
  pub text : part.text ≡ text_front (text_of lines)
  pub begun : part.begun ≡ not (has_none lines)

record InSecond (lines : List (List ℕ)) (first : Resolved) (names : Names) (part : Part) : Type 0 where
  pub one : HasOne lines
  pub found : schema_answer (schema_part lines) ≡ Ok first
  pub named : names ≡ names_in (text_front (schema_part lines))
  pub text : part.text ≡ text_front (second_part lines)
  pub begun : part.begun ≡ not (has_none (after_separator lines))

record InRefused (lines : List (List ℕ)) (kept : List ℕ) : Type 0 where
  pub refusal : List ℕ
  pub one : HasOne lines
  pub found : schema_answer (schema_part lines) ≡ Err refusal
  pub text : kept ≡ text_front (schema_part lines)

abbrev Leads : List (List ℕ) → Phase → Type 0
Leads lines (First part) = InFirst lines part
Leads lines (Second first names part) = InSecond lines first names part
Leads lines (Refused kept) = InRefused lines kept

next_at : (lines : List (List ℕ)) (phase : Phase) → Leads lines phase → (next_of phase ≡ Going phase) ⊎ EndsIn compare_teller phase
next_at lines (First part) l = inl refl
next_at lines (Second first names part) l = inl refl
next_at lines (Refused kept) l = inr (record { status = endings.Refused kept; is = refl; after = λ line. refl; pieces = λ line. refl; told = refl })

leads_judged : (lines : List (List ℕ)) (end kept : List ℕ) (answer : Result Resolved (List ℕ)) → HasNo lines → is_separator end ≡ true → kept ≡ text_front (text_of lines) → schema_answer (text_of lines) ≡ answer → Leads (lines ++ end ∷ []) (after_first kept answer)
leads_judged lines end kept (Err refusal) none is text e = record {
  refusal = refusal;
  one = one_first lines end none is;
  found = found_first lines end (Err refusal) none is e;
  text = text ∙ ap (λ ls. text_front (text_of ls)) (sym (before-first lines end is none));
}
leads_judged lines end kept (Ok first) none is text e = record {
  one = one_first lines end none is;
  found = found_first lines end (Ok first) none is e;
  named = ap names_in (text ∙ ap (λ ls. text_front (text_of ls)) (sym (before-first lines end is none)));
  text = sym (ap (λ ls. text_front (text_of ls)) (after-first lines end is none) ∙ front_none text_limit);
  begun = sym (ap (λ ls. not (has_none ls)) (after-first lines end is none));
}

leads_part : (lines : List (List ℕ)) (line : List ℕ) (part : Part) (sep : Bool) → is_separator line ≡ sep → InFirst lines part
    → Leads (lines ++ line ∷ []) (cond sep (after_first part.text (schema_answer part.text)) (First (with_line part (text_front line))))
leads_part lines line part true is l = leads_judged lines line part.text (schema_answer part.text) l.none is l.text (schema_so_far part lines l.text)
leads_part lines line part false is l = record {
  none = none_more lines line l.none is;
  text = text_of_more part lines line l.text l.begun;
  begun = begun_more part (text_front line) part.begun refl ∙ ap not (sym (has_some lines line));
}

leads_line : (lines : List (List ℕ)) (line : List ℕ) (phase : Phase) → Leads lines phase → Leads (lines ++ line ∷ []) (after_end phase (text_front line))
leads_line lines line (First part) l =
    subst (Leads (lines ++ line ∷ []))
    (sym (ap (λ (sep : Bool). cond sep (after_first part.text (schema_answer part.text)) (First (with_line part (text_front line)))) (separator_of_front line)))
    (leads_part lines line part (is_separator line) refl l)
leads_line lines line (Second first names part) l =
    let rest = after-append lines (line ∷ []) l.one in
    record {
      one = one_more lines (line ∷ []) l.one;
      found = found_more lines line (Ok first) l.one l.found;
      named = l.named ∙ ap (λ ls. names_in (text_front (text_of ls))) (sym (before-append lines (line ∷ []) l.one));
      text = text_of_more part (after_separator lines) line l.text l.begun ∙ ap (λ ls. text_front (text_of ls)) (sym rest);
      begun = begun_more part (text_front line) part.begun refl ∙ ap not (sym (has_some (after_separator lines) line)) ∙ ap (λ ls. not (has_none ls)) (sym rest);
    }
leads_line lines line (Refused kept) l = record {
  refusal = l.refusal;
  one = one_more lines (line ∷ []) l.one;
  found = found_more lines line (Err l.refusal) l.one l.found;
  text = l.text ∙ ap (λ ls. text_front (text_of ls)) (sym (before-append lines (line ∷ []) l.one));
}

-- ---- what one more line tells

pieces_judged : (kept second : List ℕ) (answer : Result Resolved (List ℕ)) → (told_first false kept answer second).pieces ≡ pieces_of_schema answer
pieces_judged kept second (Ok first) = refl
pieces_judged kept second (Err refusal) = refl

pieces_part : (lines : List (List ℕ)) (line : List ℕ) (part : Part) (sep : Bool) → is_separator line ≡ sep → InFirst lines part
    → (told_lines false (lines ++ line ∷ [])).pieces ≡ cond sep (pieces_of_schema (schema_answer part.text)) []
pieces_part lines line part true is l =
    let answer = schema_answer part.text in
    let all = lines ++ line ∷ [] in
    ap (λ (told : Told Ending). told.pieces) (told_found false all answer (one_first lines line l.none is) (found_first lines line answer l.none is (schema_so_far part lines l.text)))
    ∙ pieces_judged (text_front (schema_part all)) (second_part all) answer
pieces_part lines line part false is l = ap (λ (told : Told Ending). told.pieces) (told_without (lines ++ line ∷ []) (none_more lines line l.none is))

pieces_line : (lines : List (List ℕ)) (line : List ℕ) (phase : Phase) → Leads lines phase → (told_lines false (lines ++ line ∷ [])).pieces ≡ (told_lines false lines).pieces ++ pieces_at_end phase (text_front line)
pieces_line lines line (First part) l =
    pieces_part lines line part (is_separator line) refl l
    ∙ sym (ap (λ (sep : Bool). cond sep (pieces_of_schema (schema_answer part.text)) []) (separator_of_front line))
    ∙ ap (λ (told : Told Ending). told.pieces ++ pieces_at_end (First part) (text_front line)) (sym (told_without lines l.none))
pieces_line lines line (Second first names part) l =
    ap (λ (told : Told Ending). told.pieces) (told_found false (lines ++ line ∷ []) (Ok first) (one_more lines (line ∷ []) l.one) (found_more lines line (Ok first) l.one l.found))
    ∙ ap (λ (told : Told Ending). told.pieces ++ []) (sym (told_found false lines (Ok first) l.one l.found))
pieces_line lines line (Refused kept) l =
    ap (λ (told : Told Ending). told.pieces) (told_refused false (lines ++ line ∷ []) l.refusal (one_more lines (line ∷ []) l.one) (found_more lines line (Err l.refusal) l.one l.found))
    ∙ ap (λ (told : Told Ending). told.pieces ++ []) (sym (told_refused false lines l.refusal l.one l.found))

-- ---- at the end of the budget, and of the input

cut_at : (lines : List (List ℕ)) (phase : Phase) → Leads lines phase → (told_lines false lines).status ≡ status_at_cut (telling compare_teller) (next_of phase)
cut_at lines (First part) l = ap (λ (told : Told Ending). told.status) (told_without lines l.none)
cut_at lines (Second first names part) l = ap (λ (told : Told Ending). told.status) (told_found false lines (Ok first) l.one l.found)
cut_at lines (Refused kept) l = ap (λ (told : Told Ending). told.status) (told_refused false lines l.refusal l.one l.found) ∙ ap endings.Refused (sym l.text)

-- what a phase tells at the end stands behind what was told before
behind : (lines : List (List ℕ)) (phase : Phase) (told : Told Ending) → told_lines false lines ≡ told → told_of (told.pieces ++ (told_after phase).pieces) (told_after phase).status ≡ told_of ((told_lines false lines).pieces ++ (told_after phase).pieces) (told_after phase).status
behind lines phase told is = ap (λ (t : Told Ending). told_of (t.pieces ++ (told_after phase).pieces) (told_after phase).status) (sym is)

end_at : (lines : List (List ℕ)) (phase : Phase) → Leads lines phase → told_lines true lines ≡ told_of ((told_lines false lines).pieces ++ (told_after phase).pieces) (told_after phase).status
end_at lines (First part) l =
    ap (λ ls. told_first true (text_front (text_of ls)) (schema_answer (text_of ls)) (second_part lines)) (before-none lines l.none)
    ∙ ap (λ ls. told_first true (text_front (text_of lines)) (schema_answer (text_of lines)) (text_of ls)) (after-none lines l.none)
    ∙ ap (λ answer. told_first true (text_front (text_of lines)) answer []) (schema_so_far part lines l.text)
    ∙ ap (λ kept. told_first true kept (schema_answer part.text) []) (sym l.text)
    ∙ behind lines (First part) (told_of [] endings.Cut) (told_without lines l.none)
end_at lines (Second first names part) l =
    told_found true lines (Ok first) l.one l.found
    ∙ ap (λ ns. told_second first ns (text_front (second_part lines)) (schema_answer (second_part lines))) (sym l.named)
    ∙ ap (told_second first names (text_front (second_part lines))) (schema_so_far part (after_separator lines) l.text)
    ∙ ap (λ kept. told_second first names kept (schema_answer part.text)) (sym l.text)
    ∙ behind lines (Second first names part) (told_of [] endings.Cut) (told_found false lines (Ok first) l.one l.found)
end_at lines (Refused kept) l =
    told_refused true lines l.refusal l.one l.found
    ∙ ap (refused_by (schema_refused_line l.refusal)) (sym l.text)
    ∙ behind lines (Refused kept) (refused_by (schema_refused_line l.refusal) (text_front (schema_part lines))) (told_refused false lines l.refusal l.one l.found)

tells : TellsLines compare_teller text_limit told_lines Leads first_phase
tells = record {
  goes = refl;
  begins = record { none = refl; text = sym (front_none text_limit); begun = refl };
  none = refl;
  next = next_at;
  line = leads_line;
  pieces = pieces_line;
  cut = cut_at;
  end = end_at;
}

-- the machine tells what the two texts do
pub told_by_texts : (input : List ℕ) (budget : ℕ) → told_by comparing text_limit first_phase input budget ≡ told_texts input budget
unfolding told_texts
told_by_texts input budget = by_lines compare_teller text_limit told_lines Leads first_phase tells input budget (nat_le budget (length input)) refl
