-- The folder that a file stands in (this project's own): the parent of its path, and the current folder where the path has
-- none.
use Rattle.std.specs.Prelude.{ℕ, List, [], ◌∷◌, codes, Option, Some, None}
use Rattle.std.specs.Path.{path_parent}

abbrev pub named_folder : List ℕ → List ℕ
named_folder [] = codes "."
named_folder (b ∷ bs) = b ∷ bs

abbrev pub folder_in : Option (List ℕ) → List ℕ
folder_in None = codes "."
folder_in (Some parent) = named_folder parent

abbrev pub folder_of : List ℕ → List ℕ
folder_of path = folder_in (path_parent path)
