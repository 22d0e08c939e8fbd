-- What a check answers: the first violation, or the changes that make an index stand for the changed graph.
use Rattle.std.specs.Prelude.{◌≡◌, ◌⊎◌, ◌≤◌, ℕ, true, false, List, Option, Some, Contains, map, slice_get}
use Rattle.pgs_base.specs.declared.element.Elem.{Elem}
use Rattle.pgs_base.specs.declared.part.Part.{Part}
use Rattle.pgs_base.specs.Graph.{Graph}
use Rattle.pgs_base.specs.Order.{ascends, elem_cmp}
use Rattle.pgs_syntax.specs.declared.key.Key.{Key}
use Rattle.pgs_syntax.specs.declared.resolved.Resolved.{Resolved}
use Rattle.pgs_violation.specs.declared.violation.Violation.{Violation}
use Rattle.pgs_violation.specs.declared.violation.Verdict.TheVariants.{Refused}
use Rattle.pgs_violation.specs.Violations.{verdict}
use Rattle.pgs_keyindex.specs.declared.change.KeyChange.{KeyChange}
use Rattle.pgs_keyindex.specs.declared.member.Member.{Member}
use Rattle.pgs_keyindex.specs.Index.{IndexState}
use Rattle.pgs_keyindex.specs.Members.{member_of, member_cmp}
use Rattle.pgs_keyindex.specs.Rows.{rows_changed}
use Rattle.pgs_keyindex.specs.Standing.{key_at, values_in_scope}
use Rattle.pgs_check_affected.specs.Local.{is_one_of}
use Rattle.pgs_check.specs.Rows.{change_of}
use Rattle.pgs_check.specs.declared.checking.CheckFault.{CheckFault}
use Rattle.pgs_check.specs.declared.checking.CheckFault.TheVariants.{Memory, Violated}

-- a violation that is answered is the one that was found
abbrev pub IsFound : Option Violation → CheckFault → Type 0
IsFound found Memory = Unit {0}
IsFound found (Violated violation) = found ≡ Some violation

-- a violation that is answered is the first of a list
abbrev pub IsFirstOf : List Violation → CheckFault → Type 0
IsFirstOf list Memory = Unit {0}
IsFirstOf list (Violated violation) = slice_get list 0 ≡ Some violation

-- a violation that is answered is the first of the graph
abbrev pub IsFirst : Resolved → Graph → CheckFault → Type 0
IsFirst resolved g Memory = Unit {0}
IsFirst resolved g (Violated violation) = verdict resolved g ≡ Refused violation

-- the key and the element of a change
abbrev pub member_of_change : KeyChange → Member
member_of_change change = member_of change.key change.elem

-- changes that ascend strictly by key and element, so that none of these stands twice
abbrev pub ChangeEachOnce : List KeyChange → Type 0
ChangeEachOnce changes = ascends member_cmp (map member_of_change changes) ≡ true

-- an index after changes
abbrev pub index_changed : IndexState → List KeyChange → IndexState
index_changed index changes = record index { rows = rows_changed index.rows changes }

-- The rows of the elements that a key's place or key values may differ for: each has what its element gets in the changed graph, and every
-- other element has the same before and after.
pub record AreRows (number : ℕ) (before after : Elem → Option (List (List Part))) (rows : List KeyChange) : Type 0 where
  pub elems : List Elem
  pub are : rows ≡ map (change_of number after) elems
  pub ascending : ascends elem_cmp elems ≡ true
  pub others : (elem : Elem) → is_one_of elems elem ≡ false → before elem ≡ after elem

-- the same of the rows of all keys up to a number
pub record AreChanges (resolved : Resolved) (g h : Graph) (keys : List Key) (upto : ℕ) (changes : List KeyChange) : Type 0 where
  pub once : ChangeEachOnce changes
  pub below : (change : KeyChange) → Contains changes change → change.key ≤ upto
  pub right : (change : KeyChange) → Contains changes change → (key : Key) → key_at keys change.key ≡ Some key →
      change.values ≡ values_in_scope resolved h key change.elem
  pub whole : (number : ℕ) → number ≤ upto → (key : Key) → key_at keys number ≡ Some key → (elem : Elem) →
      (values_in_scope resolved g key elem ≡ values_in_scope resolved h key elem)
      ⊎ Contains changes (change_of number (values_in_scope resolved h key) elem)
