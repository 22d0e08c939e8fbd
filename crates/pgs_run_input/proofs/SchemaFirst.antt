-- A teller that reads a schema text up to a line `---`, and then lines under that schema, tells what a definition on whole lines says.
use Rattle.std.proofs.Common.{◌≡◌, ◌⊎◌, inl, inr, ℕ, Bool, true, false, not, cond, nat_le, List, [], ◌∷◌, ◌++◌, length, take, Result, Ok, Err, refl, sym, ap, ap₂, subst, ◌∙◌}
use Rattle.std.specs.Prelude.{◌||◌}
use Rattle.std.specs.List.{list_any, join_with_byte}
use Rattle.std.proofs.lemmas.List.{append-nil}
use Rattle.pgs_run_lines.specs.Input.{front_of, lines_of}
use Rattle.pgs_run_lines.specs.Machine.{Told, Going, told_by, status_at_cut}
use Rattle.pgs_run_lines.specs.Telling.{Teller, telling}
use Rattle.pgs_run_lines.proofs.Fronts.{front_none}
use Rattle.pgs_syntax.specs.declared.resolved.Resolved.{Resolved}
use Rattle.pgs_answer.specs.Lines.{schema_refused_line}
use Rattle.pgs_run_input.specs.Answers.{schema_answer}
use Rattle.pgs_run_input.specs.Judged.{pieces_behind}
use Rattle.pgs_run_input.specs.Input.{text_limit, text_front, is_separator, schema_part, after_separator}
use Rattle.pgs_run_input.specs.Part.{Part, with_line, no_part, has_none}
use Rattle.pgs_run_input.proofs.ByLines.{EndsIn, TellsLines, by_lines}
use Rattle.pgs_run_input.proofs.Joining.{has_some, begun_more, text_of_more}
use Rattle.pgs_run_input.proofs.SameFronts.{schema_so_far}
use Rattle.pgs_run_input.proofs.Separating.{HasOne, HasNo, none_more, one_first, one_more, before-append, after-append, before-first, after-first, before-none, after-none}

-- the states of such a teller: the schema part goes on, lines come behind a schema, the schema was refused
pub record Places (S : Type 0) : Type 0 where
  pub part : Part → S
  pub begin : (text : List ℕ) → Resolved → S
  pub refused : S

-- after the judgement of a schema text
abbrev pub after_schema : {S : Type 0} → Places S → (text : List ℕ) → Result Resolved (List ℕ) → S
after_schema places text (Ok schema) = places.begin text schema
after_schema places text (Err refusal) = places.refused

-- What it does in its places, what stands behind the line of a refused schema (`further`), and what lines behind a schema tell, by the states to
-- which they lead (`Behind`).
pub record SchemaFirst {E : Type 0} (t : Teller E) (limit : ℕ) (further : List (List ℕ)) (told_schema : Bool → Result Resolved (List ℕ) → List (List ℕ) → Told E) (places : Places t.State)
    (Behind : Resolved → List (List ℕ) → t.State → Type 0) : Type 0 where
  -- a line and its front say the same
  pub separator : (line : List ℕ) → is_separator (front_of limit line) ≡ is_separator line
  pub part_line : (part : Part) (line : List ℕ) → with_line part (front_of limit line) ≡ with_line part (text_front line)
  -- in the schema part
  pub part_next : (part : Part) → t.next (places.part part) ≡ Going (places.part part)
  pub part_after : (part : Part) (line : List ℕ) → t.after (places.part part) line ≡ cond (is_separator line) (after_schema places part.text (schema_answer part.text)) (places.part (with_line part line))
  pub part_pieces : (part : Part) (line : List ℕ) → t.pieces (places.part part) line ≡ cond (is_separator line) (pieces_behind further (schema_answer part.text)) []
  pub part_told : (part : Part) → t.told (places.part part) ≡ told_schema true (schema_answer part.text) []
  -- of a refused schema
  pub refused_ends : EndsIn t places.refused
  pub refused_told : (whole : Bool) (text : List ℕ) (lines : List (List ℕ)) → told_schema whole (Err text) lines ≡ record { pieces = schema_refused_line text ∷ further; status = refused_ends.status }
  -- behind a schema
  pub begins : (text : List ℕ) (schema : Resolved) → Behind schema [] (places.begin text schema)
  pub none : (schema : Resolved) → (told_schema false (Ok schema) []).pieces ≡ []
  pub cut : (schema : Resolved) (lines : List (List ℕ)) → (told_schema false (Ok schema) lines).status ≡ t.cut
  pub next : (schema : Resolved) (lines : List (List ℕ)) (s : t.State) → Behind schema lines s → t.next s ≡ Going s
  pub line : (schema : Resolved) (lines : List (List ℕ)) (line : List ℕ) (s : t.State) → Behind schema lines s → Behind schema (lines ++ line ∷ []) (t.after s (front_of limit line))
  pub pieces : (schema : Resolved) (lines : List (List ℕ)) (line : List ℕ) (s : t.State) → Behind schema lines s
      → (told_schema false (Ok schema) (lines ++ line ∷ [])).pieces ≡ (told_schema false (Ok schema) lines).pieces ++ t.pieces s (front_of limit line)
  pub end : (schema : Resolved) (lines : List (List ℕ)) (s : t.State) → Behind schema lines s
      → told_schema true (Ok schema) lines ≡ record { pieces = (told_schema false (Ok schema) lines).pieces ++ (t.told s).pieces; status = (t.told s).status }

module _ {E : Type 0} (t : Teller E) (limit : ℕ) (further : List (List ℕ)) (told_schema : Bool → Result Resolved (List ℕ) → List (List ℕ) → Told E) (places : Places t.State)
    (Behind : Resolved → List (List ℕ) → t.State → Type 0) (laws : SchemaFirst t limit further told_schema places Behind) where
  abbrev told_of : List (List ℕ) → E → Told E
  told_of pieces status = record { pieces = pieces; status = status }

  -- what lines tell; where the input is cut, a schema part is judged only where its separator is among them
  abbrev pub told_lines : Bool → List (List ℕ) → Told E
  told_lines whole lines = cond (whole || list_any is_separator lines) (told_schema whole (schema_answer (schema_part lines)) (after_separator lines)) (told_of [] t.cut)

  abbrev front : List ℕ → List ℕ
  front line = front_of limit line

  told_with : (whole : Bool) (lines : List (List ℕ)) → HasOne lines → told_lines whole lines ≡ told_schema whole (schema_answer (schema_part lines)) (after_separator lines)
  told_with true lines has = refl
  told_with false lines has = rw has refl

  -- and where the schema is known
  told_found : (whole : Bool) (lines : List (List ℕ)) (found : Result Resolved (List ℕ)) → HasOne lines → schema_answer (schema_part lines) ≡ found → told_lines whole lines ≡ told_schema whole found (after_separator lines)
  told_found whole lines found has is = told_with whole lines has ∙ ap (λ schema. told_schema whole schema (after_separator lines)) is

  told_refused : (whole : Bool) (lines : List (List ℕ)) (text : List ℕ) → HasOne lines → schema_answer (schema_part lines) ≡ Err text → told_lines whole lines ≡ told_of (schema_refused_line text ∷ further) laws.refused_ends.status
  told_refused whole lines text has is = told_found whole lines (Err text) has is ∙ laws.refused_told whole text (after_separator lines)

  told_without : (lines : List (List ℕ)) → HasNo lines → told_lines false lines ≡ told_of [] t.cut
  told_without lines none = rw none refl

  -- the schema stays behind its separator
  found_more : (lines : List (List ℕ)) (line : List ℕ) (found : Result Resolved (List ℕ)) → HasOne lines → schema_answer (schema_part lines) ≡ found → schema_answer (schema_part (lines ++ line ∷ [])) ≡ found
  found_more lines line found has is = ap (λ ls. schema_answer (join_with_byte 10 ls)) (before-append lines (line ∷ []) has) ∙ is

  found_first : (lines : List (List ℕ)) (line : List ℕ) (found : Result Resolved (List ℕ)) → HasNo lines → is_separator line ≡ true → schema_answer (join_with_byte 10 lines) ≡ found → schema_answer (schema_part (lines ++ line ∷ [])) ≡ found
  found_first lines line found none is e = ap (λ ls. schema_answer (join_with_byte 10 ls)) (before-first lines line is none) ∙ e

  -- ---- where lines lead

  record InPart (lines : List (List ℕ)) (s : t.State) : Type 0 where
    pub part : Part
    pub is : s ≡ places.part part
    pub none : HasNo lines
    pub text : part.text ≡ text_front (join_with_byte 10 lines)
    pub begun : part.begun ≡ not (has_none lines)

  record InLines (lines : List (List ℕ)) (s : t.State) : Type 0 where
    pub schema : Resolved
    pub one : HasOne lines
    pub found : schema_answer (schema_part lines) ≡ Ok schema
    pub behind : Behind schema (after_separator lines) s

  record InRefused (lines : List (List ℕ)) (s : t.State) : Type 0 where
    pub text : List ℕ
    pub is : s ≡ places.refused
    pub one : HasOne lines
    pub found : schema_answer (schema_part lines) ≡ Err text

  abbrev Leads : List (List ℕ) → t.State → Type 0
  Leads lines s = InPart lines s ⊎ (InLines lines s ⊎ InRefused lines s)

  part_goes : (lines : List (List ℕ)) (s : t.State) → InPart lines s → t.next s ≡ Going s
  part_goes lines s p = subst (λ (s : t.State). t.next s ≡ Going s) (sym p.is) (laws.part_next p.part)

  next_at : (lines : List (List ℕ)) (s : t.State) → Leads lines s → (t.next s ≡ Going s) ⊎ EndsIn t s
  next_at lines s (inl p) = inl (part_goes lines s p)
  next_at lines s (inr (inl b)) = inl (laws.next b.schema (after_separator lines) s b.behind)
  next_at lines s (inr (inr r)) = inr (subst (EndsIn t) (sym r.is) laws.refused_ends)

  leads_schema : (lines : List (List ℕ)) (end text : List ℕ) (answer : Result Resolved (List ℕ)) → HasNo lines → is_separator end ≡ true → schema_answer (join_with_byte 10 lines) ≡ answer → Leads (lines ++ end ∷ []) (after_schema places text answer)
  leads_schema lines end text (Err refusal) none is e = inr (inr (record { text = refusal; is = refl; one = one_first lines end none is; found = found_first lines end (Err refusal) none is e }))
  leads_schema lines end text (Ok schema) none is e = inr (inl (record {
    schema = schema;
    one = one_first lines end none is;
    found = found_first lines end (Ok schema) none is e;
    behind = subst (λ ls. Behind schema ls (places.begin text schema)) (sym (after-first lines end is none)) (laws.begins text schema);
  }))

  leads_part : (lines : List (List ℕ)) (line : List ℕ) (part : Part) (sep : Bool) → is_separator line ≡ sep → HasNo lines → part.text ≡ text_front (join_with_byte 10 lines) → part.begun ≡ not (has_none lines)
      → Leads (lines ++ line ∷ []) (cond sep (after_schema places part.text (schema_answer part.text)) (places.part (with_line part (text_front line))))
  leads_part lines line part true is none text begun = leads_schema lines line part.text (schema_answer part.text) none is (schema_so_far part lines text)
  leads_part lines line part false is none text begun = inl (record {
    part = with_line part (text_front line);
    is = refl;
    none = none_more lines line none is;
    text = text_of_more part lines line text begun;
    begun = begun_more part (text_front line) part.begun refl ∙ ap not (sym (has_some lines line));
  })

  leads_line : (lines : List (List ℕ)) (line : List ℕ) (s : t.State) → Leads lines s → Leads (lines ++ line ∷ []) (t.after s (front line))
  leads_line lines line s (inl p) =
      let after = ap (λ (s : t.State). t.after s (front line)) p.is ∙ laws.part_after p.part (front line)
      ∙ ap₂ (λ sep (part : Part). cond sep (after_schema places p.part.text (schema_answer p.part.text)) (places.part part)) (laws.separator line) (laws.part_line p.part line) in
      subst (Leads (lines ++ line ∷ [])) (sym after) (leads_part lines line p.part (is_separator line) refl p.none p.text p.begun)
  leads_line lines line s (inr (inl b)) = inr (inl (record {
    schema = b.schema;
    one = one_more lines (line ∷ []) b.one;
    found = found_more lines line (Ok b.schema) b.one b.found;
    behind = subst (λ ls. Behind b.schema ls (t.after s (front line))) (sym (after-append lines (line ∷ []) b.one)) (laws.line b.schema (after_separator lines) line s b.behind);
  }))
  leads_line lines line s (inr (inr r)) = inr (inr (record {
    text = r.text;
    is = ap (λ (s : t.State). t.after s (front line)) r.is ∙ laws.refused_ends.after (front line);
    one = one_more lines (line ∷ []) r.one;
    found = found_more lines line (Err r.text) r.one r.found;
  }))

  -- ---- what one more line tells

  pieces_judged : (answer : Result Resolved (List ℕ)) → (told_schema false answer []).pieces ≡ pieces_behind further answer
  pieces_judged (Err text) = ap (λ (told : Told E). told.pieces) (laws.refused_told false text [])
  pieces_judged (Ok schema) = laws.none schema

  pieces_part : (lines : List (List ℕ)) (line : List ℕ) (part : Part) (sep : Bool) → is_separator line ≡ sep → HasNo lines → part.text ≡ text_front (join_with_byte 10 lines)
      → (told_lines false (lines ++ line ∷ [])).pieces ≡ cond sep (pieces_behind further (schema_answer part.text)) []
  pieces_part lines line part true is none text =
      let answer = schema_answer part.text in
      ap (λ (told : Told E). told.pieces) (told_found false (lines ++ line ∷ []) answer (one_first lines line none is) (found_first lines line answer none is (schema_so_far part lines text)))
      ∙ ap (λ ls. (told_schema false answer ls).pieces) (after-first lines line is none) ∙ pieces_judged answer
  pieces_part lines line part false is none text = ap (λ (told : Told E). told.pieces) (told_without (lines ++ line ∷ []) (none_more lines line none is))

  pieces_line : (lines : List (List ℕ)) (line : List ℕ) (s : t.State) → Leads lines s → (told_lines false (lines ++ line ∷ [])).pieces ≡ (told_lines false lines).pieces ++ t.pieces s (front line)
  pieces_line lines line s (inl p) =
      let own = ap (λ (s : t.State). t.pieces s (front line)) p.is ∙ laws.part_pieces p.part (front line) ∙ ap (λ sep. cond sep (pieces_behind further (schema_answer p.part.text)) []) (laws.separator line) in
      pieces_part lines line p.part (is_separator line) refl p.none p.text ∙ sym own
      ∙ ap (λ (told : Told E). told.pieces ++ t.pieces s (front line)) (sym (told_without lines p.none))
  pieces_line lines line s (inr (inl b)) =
      ap (λ (told : Told E). told.pieces) (told_found false (lines ++ line ∷ []) (Ok b.schema) (one_more lines (line ∷ []) b.one) (found_more lines line (Ok b.schema) b.one b.found))
      ∙ ap (λ ls. (told_schema false (Ok b.schema) ls).pieces) (after-append lines (line ∷ []) b.one)
      ∙ laws.pieces b.schema (after_separator lines) line s b.behind
      ∙ ap (λ (told : Told E). told.pieces ++ t.pieces s (front line)) (sym (told_found false lines (Ok b.schema) b.one b.found))
  pieces_line lines line s (inr (inr r)) =
      ap (λ (told : Told E). told.pieces)
      (told_refused false (lines ++ line ∷ []) r.text (one_more lines (line ∷ []) r.one) (found_more lines line (Err r.text) r.one r.found) ∙ sym (told_refused false lines r.text r.one r.found))
      ∙ sym (append-nil (told_lines false lines).pieces)
      ∙ ap (λ ps. (told_lines false lines).pieces ++ ps) (sym (ap (λ (s : t.State). t.pieces s (front line)) r.is ∙ laws.refused_ends.pieces (front line)))

  -- ---- at the end of the budget, and of the input

  cut_at : (lines : List (List ℕ)) (s : t.State) → Leads lines s → (told_lines false lines).status ≡ status_at_cut (telling t) (t.next s)
  cut_at lines s (inl p) = ap (λ (told : Told E). told.status) (told_without lines p.none) ∙ sym (ap (status_at_cut (telling t)) (part_goes lines s p))
  cut_at lines s (inr (inl b)) =
      ap (λ (told : Told E). told.status) (told_found false lines (Ok b.schema) b.one b.found) ∙ laws.cut b.schema (after_separator lines)
      ∙ sym (ap (status_at_cut (telling t)) (laws.next b.schema (after_separator lines) s b.behind))
  cut_at lines s (inr (inr r)) =
      ap (λ (told : Told E). told.status) (told_refused false lines r.text r.one r.found) ∙ sym (ap (status_at_cut (telling t)) (ap t.next r.is ∙ laws.refused_ends.is))

  end_at : (lines : List (List ℕ)) (s : t.State) → Leads lines s → told_lines true lines ≡ told_of ((told_lines false lines).pieces ++ (t.told s).pieces) (t.told s).status
  end_at lines s (inl p) =
      ap (λ ls. told_schema true (schema_answer (join_with_byte 10 ls)) (after_separator lines)) (before-none lines p.none)
      ∙ ap (told_schema true (schema_answer (join_with_byte 10 lines))) (after-none lines p.none)
      ∙ ap (λ answer. told_schema true answer []) (schema_so_far p.part lines p.text)
      ∙ sym (ap t.told p.is ∙ laws.part_told p.part)
      ∙ ap (λ (told : Told E). told_of (told.pieces ++ (t.told s).pieces) (t.told s).status) (sym (told_without lines p.none))
  end_at lines s (inr (inl b)) =
      told_found true lines (Ok b.schema) b.one b.found ∙ laws.end b.schema (after_separator lines) s b.behind
      ∙ ap (λ (told : Told E). told_of (told.pieces ++ (t.told s).pieces) (t.told s).status) (sym (told_found false lines (Ok b.schema) b.one b.found))
  end_at lines s (inr (inr r)) =
      told_refused true lines r.text r.one r.found
      ∙ ap (λ ps. told_of ps laws.refused_ends.status) (sym (append-nil (schema_refused_line r.text ∷ further)))
      ∙ ap₂ (λ (told end : Told E). told_of (told.pieces ++ end.pieces) end.status) (sym (told_refused false lines r.text r.one r.found)) (sym (ap t.told r.is ∙ laws.refused_ends.told))

  tells : TellsLines t limit told_lines Leads (places.part no_part)
  tells = record {
    goes = laws.part_next no_part;
    begins = inl (record { part = no_part; is = refl; none = refl; text = sym (front_none text_limit); begun = refl });
    none = refl;
    next = next_at;
    line = leads_line;
    pieces = pieces_line;
    cut = cut_at;
    end = end_at;
  }

  -- the machine tells what lines do, of an input within a budget
  pub told_schema_first : (input : List ℕ) (budget : ℕ) → told_by (telling t) limit (places.part no_part) input budget
      ≡ cond (nat_le budget (length input)) (told_lines false (lines_of (take budget input)).ended) (told_lines true ((lines_of input).ended ++ (lines_of input).rest ∷ []))
  told_schema_first input budget = by_lines t limit told_lines Leads (places.part no_part) tells input budget (nat_le budget (length input)) refl
