use Rattle.std.proofs.Common.{◌≡◌, true}
use Rattle.std.specs.List.{list_all}
use Rattle.pgs_base.specs.declared.element.Elem.{Elem}
use Rattle.pgs_sessions.specs.Changes.{last_in, has_room, number_after}
use Rattle.pgs_sessions.proofs.changes.Changes.set_all.Given as goal

abbrev pub invariant-loop-elem : goal.invariant-loop-elem
invariant-loop-elem l = record {
  room : list_all (has_room l.self) l.elem-iterator.rest.items ≡ true;
  made : (q : Elem) → number_after l.commit q (last_in l.self q) l.elem-iterator.rest.items ≡ number_after l.commit q (last_in l.fn.self q) l.fn.elems.items;
}
