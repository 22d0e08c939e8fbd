-- How the files of a store are opened: the lock of NAME.a says who writes, that of NAME.b who writes over.
use Rattle.std.specs.Prelude.{Bool, true, false}
use Rattle.pgs_world_files.specs.declared.access.Access.{Access}
use Rattle.pgs_world_files.specs.declared.access.Access.TheVariants.{Read, ReadBeside, ReadUnlocked, Write, Append, Make}
use Rattle.pgs_world_files.specs.declared.access.StoreAccess.{StoreAccess}
use Rattle.pgs_world_files.specs.declared.access.StoreAccess.TheVariants as store

-- how NAME.a is opened
abbrev pub access_of_a : StoreAccess → Access
access_of_a store.Read = Read
access_of_a store.Append = Write
access_of_a store.WriteOver = Write
access_of_a store.Make = Make

-- how NAME.b is opened
abbrev pub access_of_b : StoreAccess → Access
access_of_b store.Read = Read
access_of_b store.Append = Append
access_of_b store.WriteOver = Write
access_of_b store.Make = Make

-- the file is read beside a run that writes
abbrev pub is_beside : Access → Bool
is_beside ReadBeside = true
is_beside ReadUnlocked = true
is_beside access = false
