-- What is found among shapes, one more at a time, and among those of a type and of what can stand.
use Rattle.std.proofs.Common.{◌≡◌, ℕ, ◌+◌, ◌<◌, Bool, true, false, ◌&&◌, ◌||◌, List, [], ◌∷◌, ◌++◌, length, take, get_or, Option, Some, None, refl, sym, ◌∙◌, ap}
use Rattle.std.specs.List.{list_any}
use Rattle.std.proofs.Math.Bool.{or-false}
use Rattle.std.proofs.lemmas.Bool.{and_parts, and_from}
use Rattle.std.proofs.lemmas.Option.{MatchOption-at_some, MatchOption-at_none}
use Rattle.std.proofs.lemmas.List.{take_more}
use Rattle.std.proofs.lemmas.List.Folds.{list_any-append}
use Rattle.pgs_base.specs.declared.row.NodeRow.{NodeRow}
use Rattle.pgs_syntax.specs.declared.resolved.Resolved.{Resolved}
use Rattle.pgs_syntax.specs.Fitting.{fits_node, fits_edge}
use Rattle.pgs_syntax.specs.Join.{PairTriple}
use Rattle.pgs_conform.specs.declared.shape.Shape.{Shape}
use Rattle.pgs_conform.specs.declared.shape.Triple.{Triple as ShapeTriple}
use Rattle.pgs_conform.specs.Shapes.{in_shape, in_triple, in_some, in_some_triple, Denotes, DenotesTriples}
use Rattle.pgs_product.proofs.Exact.{same_answer}
use Rattle.pgs_contain.specs.declared.outside.OwnedPair.{OwnedPair}
use Rattle.pgs_contain.specs.declared.triples.OwnedTriple.{OwnedTriple}
use Rattle.pgs_contain.specs.Contained.{pair_in}
use Rattle.pgs_contain.specs.Threes.{owned_triple}
use Rattle.pgs_standing.specs.Common.{ends_in}
use Rattle.pgs_standing.specs.Example.{by_nodes, by_edges, NonePasses, IsPlainest, IsFoundPair, IsFoundTriple, serves_node, serves_edge}
use Rattle.pgs_standing.specs.Standing.{is_small, is_small_triple, admits_node, admits_edge}
use Rattle.pgs_standing.proofs.Chosen.{found_same}

any_more : {S : Type 0} (q : S → Bool) (xs : List S) (i : ℕ) (x : S) → i < length xs → x ≡ get_or xs i x → (list_any q (take i xs) || q x) ≡ list_any q (take (i + 1) xs)
any_more q xs i x lt is =
    sym (ap (list_any q) (take_more xs i x lt ∙ ap (λ y. take i xs ++ y ∷ []) (sym is)) ∙ list_any-append q (take i xs) (x ∷ [])
    ∙ ap (λ b. list_any q (take i xs) || b) (or-false (q x)))

-- what was found, where it is known which
pub found_none : (test : NodeRow → Bool) (answer : Option OwnedPair) → answer ≡ None → IsFoundPair test answer → NonePasses by_nodes test
found_none test answer is h = MatchOption-at_none (NonePasses by_nodes test) (λ own. IsPlainest by_nodes test (pair_in own)) is h

pub found_some : (test : NodeRow → Bool) (answer : Option OwnedPair) (own : OwnedPair) → answer ≡ Some own → IsFoundPair test answer → IsPlainest by_nodes test (pair_in own)
found_some test answer own is h = MatchOption-at_some (NonePasses by_nodes test) (λ one. IsPlainest by_nodes test (pair_in one)) own is h

-- the choice between two that were found
abbrev pub ChoosesPair : Option OwnedPair → Option OwnedPair → Option OwnedPair → Type 0
ChoosesPair found next result = (f g : NodeRow → Bool) → IsFoundPair f found → IsFoundPair g next → IsFoundPair (λ p. f p || g p) result

abbrev pub ChoosesTriple : Option OwnedTriple → Option OwnedTriple → Option OwnedTriple → Type 0
ChoosesTriple found next result = (f g : PairTriple → Bool) → IsFoundTriple f found → IsFoundTriple g next → IsFoundTriple (λ t. f t || g t) result

-- ---- pairs

last_of_three : (s a m n : Bool) → ((s && (a && m)) || (s && (a && n))) ≡ (s && (a && (m || n)))
last_of_three true true m n = refl
last_of_three true false m n = refl
last_of_three false a m n = refl

second_of_three : (s m n o : Bool) → ((s && (m && o)) || (s && (n && o))) ≡ (s && ((m || n) && o))
second_of_three true true true true = refl
second_of_three true true true false = refl
second_of_three true true false true = refl
second_of_three true true false false = refl
second_of_three true false n o = refl
second_of_three false m n o = refl

pub other_more : (shape : Shape) (others : List Shape) (i : ℕ) (other : Shape) (found next result : Option OwnedPair) → i < length others → other ≡ get_or others i other →
    ChoosesPair found next result → IsFoundPair (λ p. is_small p && (in_shape shape p && in_some (take i others) p)) found →
    IsFoundPair (λ p. is_small p && (in_shape shape p && in_shape other p)) next →
    IsFoundPair (λ p. is_small p && (in_shape shape p && in_some (take (i + 1) others) p)) result
other_more shape others i other found next result lt is chooses before here =
    found_same by_nodes pair_in
    (λ p. (is_small p && (in_shape shape p && in_some (take i others) p)) || (is_small p && (in_shape shape p && in_shape other p)))
    (λ p. is_small p && (in_shape shape p && in_some (take (i + 1) others) p)) result
    (λ q pair. last_of_three (is_small q) (in_shape shape q) (in_some (take i others) q) (in_shape other q)
    ∙ ap (λ b. is_small q && (in_shape shape q && b)) (any_more (λ s. in_shape s q) others i other lt is))
    (chooses (λ p. is_small p && (in_shape shape p && in_some (take i others) p)) (λ p. is_small p && (in_shape shape p && in_shape other p)) before here)

pub shape_more : (shapes others : List Shape) (i : ℕ) (shape : Shape) (found next result : Option OwnedPair) → i < length shapes → shape ≡ get_or shapes i shape →
    ChoosesPair found next result → IsFoundPair (λ p. is_small p && (in_some (take i shapes) p && in_some others p)) found →
    IsFoundPair (λ p. is_small p && (in_shape shape p && in_some others p)) next →
    IsFoundPair (λ p. is_small p && (in_some (take (i + 1) shapes) p && in_some others p)) result
shape_more shapes others i shape found next result lt is chooses before here =
    found_same by_nodes pair_in
    (λ p. (is_small p && (in_some (take i shapes) p && in_some others p)) || (is_small p && (in_shape shape p && in_some others p)))
    (λ p. is_small p && (in_some (take (i + 1) shapes) p && in_some others p)) result
    (λ q pair. second_of_three (is_small q) (in_some (take i shapes) q) (in_shape shape q) (in_some others q)
    ∙ ap (λ b. is_small q && (b && in_some others q)) (any_more (λ s. in_shape s q) shapes i shape lt is))
    (chooses (λ p. is_small p && (in_some (take i shapes) p && in_some others p)) (λ p. is_small p && (in_shape shape p && in_some others p)) before here)

-- ---- triples

second_of_four : (s a m n e : Bool) → ((s && ((a && m) && e)) || (s && ((a && n) && e))) ≡ (s && ((a && (m || n)) && e))
second_of_four true true m n e = second_of_three true m n e
second_of_four true false m n e = refl
second_of_four false a m n e = refl

first_of_four : (s m n o e : Bool) → ((s && ((m && o) && e)) || (s && ((n && o) && e))) ≡ (s && (((m || n) && o) && e))
first_of_four s m n true e = by s m n e
  where
    by : (s m n e : Bool) → ((s && ((m && true) && e)) || (s && ((n && true) && e))) ≡ (s && (((m || n) && true) && e))
    by true true true true = refl
    by true true true false = refl
    by true true false true = refl
    by true true false false = refl
    by true false n e = refl
    by false m n e = refl
first_of_four s m n false e = by s m n
  where
    by : (s m n : Bool) → ((s && ((m && false) && e)) || (s && ((n && false) && e))) ≡ (s && (((m || n) && false) && e))
    by true true true = refl
    by true true false = refl
    by true false n = refl
    by false m n = refl

never_second_of_four : (s a e : Bool) → (s && ((a && false) && e)) ≡ false
never_second_of_four true true e = refl
never_second_of_four true false e = refl
never_second_of_four false a e = refl

pub no_other_triples : (shapes : ShapeTriple) (nodes : List Shape) → NonePasses by_edges (λ t. is_small_triple t && (in_triple shapes t && in_some_triple [] t && ends_in nodes t))
no_other_triples shapes nodes t is = never_second_of_four (is_small_triple t) (in_triple shapes t) (ends_in nodes t)

pub other_triple_more : (shapes : ShapeTriple) (others : List ShapeTriple) (nodes : List Shape) (i : ℕ) (other : ShapeTriple) (found next result : Option OwnedTriple) →
    i < length others → other ≡ get_or others i other → ChoosesTriple found next result →
    IsFoundTriple (λ t. is_small_triple t && (in_triple shapes t && in_some_triple (take i others) t && ends_in nodes t)) found →
    IsFoundTriple (λ t. is_small_triple t && (in_triple shapes t && in_triple other t && ends_in nodes t)) next →
    IsFoundTriple (λ t. is_small_triple t && (in_triple shapes t && in_some_triple (take (i + 1) others) t && ends_in nodes t)) result
other_triple_more shapes others nodes i other found next result lt is chooses before here =
    found_same by_edges owned_triple
    (λ t. (is_small_triple t && (in_triple shapes t && in_some_triple (take i others) t && ends_in nodes t))
    || (is_small_triple t && (in_triple shapes t && in_triple other t && ends_in nodes t)))
    (λ t. is_small_triple t && (in_triple shapes t && in_some_triple (take (i + 1) others) t && ends_in nodes t)) result
    (λ t triple. second_of_four (is_small_triple t) (in_triple shapes t) (in_some_triple (take i others) t) (in_triple other t) (ends_in nodes t)
    ∙ ap (λ b. is_small_triple t && ((in_triple shapes t && b) && ends_in nodes t)) (any_more (λ s. in_triple s t) others i other lt is))
    (chooses (λ t. is_small_triple t && (in_triple shapes t && in_some_triple (take i others) t && ends_in nodes t))
    (λ t. is_small_triple t && (in_triple shapes t && in_triple other t && ends_in nodes t)) before here)

pub triple_more : (triples others : List ShapeTriple) (nodes : List Shape) (i : ℕ) (shapes : ShapeTriple) (found next result : Option OwnedTriple) →
    i < length triples → shapes ≡ get_or triples i shapes → ChoosesTriple found next result →
    IsFoundTriple (λ t. is_small_triple t && (in_some_triple (take i triples) t && in_some_triple others t && ends_in nodes t)) found →
    IsFoundTriple (λ t. is_small_triple t && (in_triple shapes t && in_some_triple others t && ends_in nodes t)) next →
    IsFoundTriple (λ t. is_small_triple t && (in_some_triple (take (i + 1) triples) t && in_some_triple others t && ends_in nodes t)) result
triple_more triples others nodes i shapes found next result lt is chooses before here =
    found_same by_edges owned_triple
    (λ t. (is_small_triple t && (in_some_triple (take i triples) t && in_some_triple others t && ends_in nodes t))
    || (is_small_triple t && (in_triple shapes t && in_some_triple others t && ends_in nodes t)))
    (λ t. is_small_triple t && (in_some_triple (take (i + 1) triples) t && in_some_triple others t && ends_in nodes t)) result
    (λ t triple. first_of_four (is_small_triple t) (in_some_triple (take i triples) t) (in_triple shapes t) (in_some_triple others t) (ends_in nodes t)
    ∙ ap (λ b. is_small_triple t && ((b && in_some_triple others t) && ends_in nodes t)) (any_more (λ s. in_triple s t) triples i shapes lt is))
    (chooses (λ t. is_small_triple t && (in_some_triple (take i triples) t && in_some_triple others t && ends_in nodes t))
    (λ t. is_small_triple t && (in_triple shapes t && in_some_triple others t && ends_in nodes t)) before here)

-- ---- types

swap_first : (a b c : Bool) → (a && (b && c)) ≡ (b && (a && c))
swap_first true b c = refl
swap_first false true c = refl
swap_first false false c = refl

pub node_served : (resolved : Resolved) (number : ℕ) (shapes standing : List Shape) (answer : Option OwnedPair) → Denotes shapes (fits_node resolved number) →
    Denotes standing (admits_node resolved) → IsFoundPair (λ p. is_small p && (in_some shapes p && in_some standing p)) answer → IsFoundPair (serves_node resolved number) answer
node_served resolved number shapes standing answer own stands h =
    found_same by_nodes pair_in (λ p. is_small p && (in_some shapes p && in_some standing p)) (serves_node resolved number) answer
    (λ q pair. swap_first (is_small q) (in_some shapes q) (in_some standing q) ∙ ap (λ b. b && (is_small q && in_some standing q)) (own q pair)
    ∙ ap (λ b. fits_node resolved number q && (is_small q && b)) (stands q pair)) h

-- whether ends that fit, an edge that fits, and small ones of each
served : (small_source small_own small_target fits admits source target : Bool) →
    (((small_source && small_own) && small_target) && ((fits && admits) && (source && target)))
    ≡ (fits && ((((small_source && source) && (small_target && target)) && small_own) && admits))
served ss so st f a s t =
    same_answer (((ss && so) && st) && ((f && a) && (s && t))) (f && ((((ss && s) && (st && t)) && so) && a))
    (λ h.
    let outer = and_parts ((ss && so) && st) ((f && a) && (s && t)) h in
    let smalls = and_parts (ss && so) st outer.0 in
    let firsts = and_parts ss so smalls.0 in
    let rest = and_parts (f && a) (s && t) outer.1 in
    let fit = and_parts f a rest.0 in
    let ends = and_parts s t rest.1 in
    and_from f _ fit.0 (and_from _ a (and_from _ so (and_from _ _ (and_from ss s firsts.0 ends.0) (and_from st t smalls.1 ends.1)) firsts.1) fit.1))
    (λ h.
    let outer = and_parts f ((((ss && s) && (st && t)) && so) && a) h in
    let rest = and_parts (((ss && s) && (st && t)) && so) a outer.1 in
    let inner = and_parts ((ss && s) && (st && t)) so rest.0 in
    let ends = and_parts (ss && s) (st && t) inner.0 in
    let source = and_parts ss s ends.0 in
    let target = and_parts st t ends.1 in
    and_from _ _ (and_from _ st (and_from ss so source.0 inner.1) target.0) (and_from _ _ (and_from f a outer.0 rest.1) (and_from s t source.1 target.1)))

pub edge_served : (resolved : Resolved) (number : ℕ) (triples standing : List ShapeTriple) (nodes : List Shape) (answer : Option OwnedTriple) →
    DenotesTriples triples (fits_edge resolved number) → DenotesTriples standing (admits_edge resolved) → Denotes nodes (admits_node resolved) →
    IsFoundTriple (λ t. is_small_triple t && (in_some_triple triples t && in_some_triple standing t && ends_in nodes t)) answer → IsFoundTriple (serves_edge resolved number) answer
edge_served resolved number triples standing nodes answer own stands ends h =
    found_same by_edges owned_triple (λ t. is_small_triple t && (in_some_triple triples t && in_some_triple standing t && ends_in nodes t))
    (serves_edge resolved number) answer
    (λ t triple.
    let outer = and_parts _ _ triple in
    let inner = and_parts _ _ outer.0 in
    ap (λ b. is_small_triple t && ((b && in_some_triple standing t) && ends_in nodes t)) (own t triple)
    ∙ ap (λ b. is_small_triple t && ((fits_edge resolved number t && b) && ends_in nodes t)) (stands t triple)
    ∙ ap (λ b. is_small_triple t && ((fits_edge resolved number t && admits_edge resolved t) && (b && in_some nodes t.target))) (ends t.source inner.0)
    ∙ ap (λ b. is_small_triple t && ((fits_edge resolved number t && admits_edge resolved t) && (admits_node resolved t.source && b))) (ends t.target outer.1)
    ∙ served (is_small t.source) (is_small t.own) (is_small t.target) (fits_edge resolved number t) (admits_edge resolved t) (admits_node resolved t.source) (admits_node resolved t.target)) h
