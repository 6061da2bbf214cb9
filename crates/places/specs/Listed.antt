-- What a table of places lists.
use Rattle.std.specs.Prelude.{ℕ, List, take}
use Rattle.places.specs.declared.Places.{Places}

-- the items of the taken places, in the order of the places
abbrev pub listed : {T : Type 0} {N : ℕ} → Places T N → List T
listed places = take places.count places.table
