use Rattle.std.proofs.Common.{◌≡◌, ◌<◌, ◌≤◌, ◌+◌, ◌++◌, ◌∷◌, [], ◌*◌, ◌^◌, cond, not, get_or, length, map, take, sym, ap, ◌∙◌, subst, arith}
use Rattle.std.proofs.lemmas.List.{length-append, length-map}
use Rattle.pgs_match.specs.Planned.{most_edges}
use Rattle.pgs_match.proofs.Along.{take_whole}
use Rattle.pgs_check_affected.specs.declared.known.Known.{Known}
use Rattle.pgs_check_affected.specs.Found.{found, found_by}
use Rattle.pgs_check_affected.specs.Unseen.{seen_elems}
use Rattle.pgs_check_affected.proofs.Counting.{known_more, known_within}
use Rattle.pgs_check_affected.proofs.Fronts.{elem_at, found_more, is_kept, keep, kept_fewer, kept_has, kept_more, kept_same}
use Rattle.pgs_check_affected.proofs.Knowing.{known_at, elem_own}
use Rattle.pgs_check_affected.proofs.gathering.searched_by_all.Goals as goal

pub add_found_by-requires-clause-known : goal.add_found_by-requires-clause-known
add_found_by-requires-clause-known g c =
    let before = g.G.GraphRead.meaning c.args.before.now in
    let after = g.H.GraphRead.meaning c.args.after.now in
    let i = c.loop-one.one-index in
    let one = c.one-item.result in
    known_at before after (map (λ (k : Known). k.elem) c.args.known.now) i one (subst (λ xs. i < length xs) c.requires.known c.loop-one-test.true)
    (ap (λ xs. get_or xs i one) (sym c.requires.known) ∙ sym c.one-item.is)

pub loop-one-preserved-then-is_left_unseen : goal.loop-one-preserved-then-is_left_unseen
loop-one-preserved-then-is_left_unseen g c =
    let before = g.G.GraphRead.meaning c.args.before.now in
    let after = g.H.GraphRead.meaning c.args.after.now in
    let key = c.args.key.now in
    let resolved = c.args.compiled.now in
    let i = c.loop-one.one-index in
    let one = c.one-item.result in
    let elems = map (λ (k : Known). k.elem) c.args.known.now in
    let test = keep resolved before after key elems in
    let past = c.loop-one.invariant in
    let is = known_at before after elems i one (subst (λ xs. i < length xs) c.requires.known c.loop-one-test.true) (ap (λ xs. get_or xs i one) (sym c.requires.known) ∙ sym c.one-item.is) in
    let below = subst (λ n. i < n) (sym (length-map c.args.known.now (λ (k : Known). k.elem))) c.loop-one-test.true in
    let at = elem_at c.args.known.now i one c.loop-one-test.true (sym c.one-item.is) in
    let left = is_kept resolved before after key one is c.is_left_unseen.result c.is_left_unseen.ensures ∙ ap not c.if-is_left_unseen.true in
    let same = kept_same test elems i one.elem below at left in
    record {
      so_far = past.so_far ∙ ap (found resolved before after c.args.searched.scope c.args.searched.descriptor key) (sym same);
      no_step_back = past.no_step_back;
      cost = λ most sparse.
          subst (λ xs. c.loop-one.steps ≤ c.args.steps.now + (cond c.args.searched.scope 640 0 + cond c.args.searched.descriptor 640 0) * length xs * (most + 2) ^ (most_edges key + 1)) (sym same) (past.cost most sparse);
    }

pub loop-one-preserved : goal.loop-one-preserved
loop-one-preserved g c =
    let before = g.G.GraphRead.meaning c.args.before.now in
    let after = g.H.GraphRead.meaning c.args.after.now in
    let key = c.args.key.now in
    let resolved = c.args.compiled.now in
    let i = c.loop-one.one-index in
    let one = c.one-item.result in
    let elems = map (λ (k : Known). k.elem) c.args.known.now in
    let test = keep resolved before after key elems in
    let past = c.loop-one.invariant in
    let is = known_at before after elems i one (subst (λ xs. i < length xs) c.requires.known c.loop-one-test.true) (ap (λ xs. get_or xs i one) (sym c.requires.known) ∙ sym c.one-item.is) in
    let below = subst (λ n. i < n) (sym (length-map c.args.known.now (λ (k : Known). k.elem))) c.loop-one-test.true in
    let at = elem_at c.args.known.now i one c.loop-one-test.true (sym c.one-item.is) in
    let kept = is_kept resolved before after key one is c.is_left_unseen.result c.is_left_unseen.ensures ∙ ap not c.if-is_left_unseen.false in
    let more = kept_more test elems i one.elem below at kept in
    let front = seen_elems resolved before after key (take i elems) in
    record {
      so_far =
          c.in_ok-add_found_by.ensures.elems ∙ ap (λ items. items ++ found_by resolved before after one.elem c.args.searched.scope c.args.searched.descriptor key) past.so_far
          ∙ sym (found_more resolved before after c.args.searched.scope c.args.searched.descriptor key front one.elem) ∙ ap (found resolved before after c.args.searched.scope c.args.searched.descriptor key) (sym more);
      no_step_back = omega (arith, past.no_step_back, c.add_found_by.ensures.no_step_back);
      cost = λ most sparse.
          let near = sparse one.elem (kept_has test elems one.elem (elem_own c.args.known.now i one c.loop-one-test.true (sym c.one-item.is)) kept) in
          let size = length-append front (one.elem ∷ []) in
          let count : length (seen_elems resolved before after key (take (i + 1) elems)) ≡ length front + 1 = ap (λ xs. length xs) more ∙ size in
          subst (λ n. c.add_found_by.new.steps ≤ c.args.steps.now + (cond c.args.searched.scope 640 0 + cond c.args.searched.descriptor 640 0) * n * (most + 2) ^ (most_edges key + 1)) (sym count)
          (known_more (cond c.args.searched.scope 640 0 + cond c.args.searched.descriptor 640 0) (length front) ((most + 2) ^ (most_edges key + 1)) _ _ _ (past.cost most sparse) (c.add_found_by.ensures.cost most near));
    }

pub returns-in_err-add_found_by-clause-cost : goal.returns-in_err-add_found_by-clause-cost
returns-in_err-add_found_by-clause-cost g c = λ most sparse.
    let before = g.G.GraphRead.meaning c.args.before.now in
    let after = g.H.GraphRead.meaning c.args.after.now in
    let key = c.args.key.now in
    let resolved = c.args.compiled.now in
    let i = c.loop-one.one-index in
    let one = c.one-item.result in
    let elems = map (λ (k : Known). k.elem) c.args.known.now in
    let test = keep resolved before after key elems in
    let is = known_at before after elems i one (subst (λ xs. i < length xs) c.requires.known c.loop-one-test.true) (ap (λ xs. get_or xs i one) (sym c.requires.known) ∙ sym c.one-item.is) in
    let below = subst (λ n. i < n) (sym (length-map c.args.known.now (λ (k : Known). k.elem))) c.loop-one-test.true in
    let at = elem_at c.args.known.now i one c.loop-one-test.true (sym c.one-item.is) in
    let kept = is_kept resolved before after key one is c.is_left_unseen.result c.is_left_unseen.ensures ∙ ap not c.if-is_left_unseen.false in
    let near = sparse one.elem (kept_has test elems one.elem (elem_own c.args.known.now i one c.loop-one-test.true (sym c.one-item.is)) kept) in
    known_within (cond c.args.searched.scope 640 0 + cond c.args.searched.descriptor 640 0) (length (seen_elems resolved before after key (take i elems))) (length (seen_elems resolved before after key elems)) ((most + 2) ^ (most_edges key + 1))
    c.args.steps.now c.loop-one.steps c.add_found_by.new.steps (kept_fewer test elems i one.elem below at kept) (c.loop-one.invariant.cost most sparse) (c.add_found_by.ensures.cost most near)

pub returns-clause-found : goal.returns-clause-found
returns-clause-found g c =
    let before = g.G.GraphRead.meaning c.args.before.now in
    let after = g.H.GraphRead.meaning c.args.after.now in
    let elems = map (λ (k : Known). k.elem) c.args.known.now in
    c.loop-one.invariant.so_far
    ∙ ap (λ xs. found c.args.compiled.now before after c.args.searched.scope c.args.searched.descriptor c.args.key.now (seen_elems c.args.compiled.now before after c.args.key.now xs))
    (take_whole elems c.loop-one.one-index (let size = length-map c.args.known.now (λ (k : Known). k.elem) in omega (arith, size, c.loop-one-test.false)))

pub returns-clause-cost : goal.returns-clause-cost
returns-clause-cost g c = λ most sparse.
    let before = g.G.GraphRead.meaning c.args.before.now in
    let after = g.H.GraphRead.meaning c.args.after.now in
    let elems = map (λ (k : Known). k.elem) c.args.known.now in
    subst (λ xs. c.loop-one.steps ≤ c.args.steps.now + (cond c.args.searched.scope 640 0 + cond c.args.searched.descriptor 640 0) * length (seen_elems c.args.compiled.now before after c.args.key.now xs) * (most + 2) ^ (most_edges c.args.key.now + 1))
    (take_whole elems c.loop-one.one-index (let size = length-map c.args.known.now (λ (k : Known). k.elem) in omega (arith, size, c.loop-one-test.false)))
    (c.loop-one.invariant.cost most sparse)
