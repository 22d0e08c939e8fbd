-- What contracts see of the world over files and a writer: of the output what the writer tells, and of each area what its file does.
use Rattle.std.proofs.Common.{◌≡◌, ℕ, Bool, true, false, List, [], Option, Some, None, IsTrue, refl, sym, ap, ◌∙◌, if◌then◌else◌}
use Rattle.std.proofs.lemmas.Bool.{false≢true}
use Rattle.std.specs.Option.{is_some, unwrap_or}
use Rattle.std.specs.Io.KnownBytes.{Appends}
use Rattle.pgs_world.specs.declared.area.Area.{Area}
use Rattle.pgs_world.specs.declared.area.Area.TheVariants.{A, B}
use Rattle.pgs_world.specs.World.{Adds, AddsFront, part, other, output_of}
use Rattle.pgs_world.specs.Disk.{IsSameBeside}
use Rattle.pgs_world_files.specs.Counted.{Bytes, Told, bytes_in, bytes_of, seen}
use Rattle.pgs_world_files.specs.Handles.{handle_in}
use Rattle.pgs_world_streams.specs.Pieces.{AppendsFront}
use Rattle.pgs_world_files.specs.declared.area_files.AreaFiles.{AreaFiles}
use Rattle.pgs_world_files.specs.declared.file_world.FileWorld.{FileWorld}

abbrev told_output : Bool → Option (List ℕ) → Option (List ℕ)
told_output tells contents = if tells then Some (unwrap_or contents []) else None

told_is : (tells : Bool) (contents : Option (List ℕ)) → is_some contents ≡ tells → told_output tells contents ≡ contents
told_is true None is = absurd (false≢true is)
told_is true (Some xs) is = refl
told_is false None is = refl
told_is false (Some xs) is = absurd (false≢true (sym is))

adds_told : (tells : Bool) (old new : Option (List ℕ)) (piece : List ℕ) → is_some old ≡ tells → is_some new ≡ tells → Appends old new piece
    → Adds (told_output tells old) (told_output tells new) piece
adds_told true None new piece a b appends = absurd (false≢true a)
adds_told true (Some xs) None piece a b appends = absurd appends
adds_told true (Some xs) (Some ys) piece a b appends = ap Some appends
adds_told false old new piece a b appends = refl

module _ {W H : Type 0} (told : Told W H) (steady : (writer : W) → is_some (told.written writer) ≡ told.tells_output) where
  -- what the world shows as its output
  pub output_is : (world : FileWorld W H) → output_of (seen told world) ≡ told.written world.writer
  output_is world = told_is told.tells_output (told.written world.writer) (steady world.writer)

  pub adds_view : (old new : FileWorld W H) (piece : List ℕ) → Appends (told.written old.writer) (told.written new.writer) piece → Adds (output_of (seen told old)) (output_of (seen told new)) piece
  adds_view old new piece appends =
      adds_told told.tells_output (told.written old.writer) (told.written new.writer) piece (steady old.writer) (steady new.writer) appends

  pub adds_front_view : (old new : FileWorld W H) (piece : List ℕ) → AppendsFront (told.written old.writer) (told.written new.writer) piece → AddsFront (output_of (seen told old)) (output_of (seen told new)) piece
  adds_front_view old new piece appends =
      record { front = appends.front; back = appends.back; parts = appends.parts; added = adds_view old new appends.front appends.appends }

module _ {H : Type 0} (tells : Bool) (contents : H → List ℕ) where
  -- the bytes of an area are those of its file
  pub part_is : (area : Area) (areas : AreaFiles H) (output : List ℕ) → part area (record { a = (bytes_of tells contents areas).a; b = (bytes_of tells contents areas).b; output = output }) ≡ bytes_in tells contents (handle_in area areas)
  part_is A areas output = refl
  part_is B areas output = refl

  both : (xs ys us vs : List ℕ) → xs ≡ us → ys ≡ vs → (let one : Bytes = record { a = xs; b = ys } in one) ≡ (let two : Bytes = record { a = us; b = vs } in two)
  both xs ys us vs p q = ap (λ l. let one : Bytes = record { a = l; b = ys } in one) p ∙ ap (λ l. let one : Bytes = record { a = us; b = l } in one) q

  -- a call on one area that leaves its bytes
  pub bytes_stay : (area : Area) (old new : AreaFiles H) → bytes_in tells contents (handle_in area new) ≡ bytes_in tells contents (handle_in area old) → handle_in (other area) new ≡ handle_in (other area) old → bytes_of tells contents new ≡ bytes_of tells contents old
  bytes_stay A old new one beside = both (bytes_in tells contents new.a.handle) (bytes_in tells contents new.b.handle) (bytes_in tells contents old.a.handle) (bytes_in tells contents old.b.handle) one (ap (bytes_in tells contents) beside)
  bytes_stay B old new one beside = both (bytes_in tells contents new.a.handle) (bytes_in tells contents new.b.handle) (bytes_in tells contents old.a.handle) (bytes_in tells contents old.b.handle) (ap (bytes_in tells contents) beside) one

  pub beside_stays : (area : Area) (old new : AreaFiles H) (was is : List ℕ) → is ≡ was → handle_in (other area) new ≡ handle_in (other area) old
      → IsSameBeside area (record { a = (bytes_of tells contents old).a; b = (bytes_of tells contents old).b; output = was }) (record { a = (bytes_of tells contents new).a; b = (bytes_of tells contents new).b; output = is })
  beside_stays A old new was is output beside = record { beside = ap (bytes_in tells contents) beside; output = output }
  beside_stays B old new was is output beside = record { beside = ap (bytes_in tells contents) beside; output = output }

  -- what an area shows is what its file holds
  pub bytes_told : IsTrue tells → (handle : Option H) → bytes_in true contents handle ≡ bytes_in tells contents handle
  bytes_told is handle = told_in tells is
    where
      told_in : (tells : Bool) → IsTrue tells → bytes_in true contents handle ≡ bytes_in tells contents handle
      told_in true is = refl
      told_in false is = absurd (false≢true is)
