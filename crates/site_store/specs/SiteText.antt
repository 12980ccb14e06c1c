-- What a store's row for its site says (this project's own).
use Rattle.std.specs.Prelude.{◌≡◌, ◌≢◌, ℕ, List, [], ◌∷◌, ◌++◌, Option, Some, None, decimal, ⊤}
use Rattle.std.specs.Option.{option_map}
use Rattle.std.specs.Borrow.{Bor}
use Rattle.site_store.specs.declared.error.StoreOpenError.{StoreOpenError}
use Rattle.site_store.specs.declared.error.StoreOpenError.TheVariants.{BadStore, WrongSite, WrongGroup, WrongLayout, StoreFault, Memory}

-- the site's number in decimals; in a group of sites also a blank and the group's name behind it
abbrev pub site_text : ℕ → Option (List ℕ) → List ℕ
site_text i None = decimal i
site_text i (Some name) = decimal i ++ (32 ∷ name)

-- what stands behind the number in such a text: nothing, or a blank and more
abbrev pub IsApart : List ℕ → Type 0
IsApart [] = ⊤
IsApart (b ∷ bs) = b ≡ 32

-- the name of a group, where the code has one
abbrev pub named : Option (Bor (List ℕ)) → Option (List ℕ)
named group = option_map (λ name. name.now) group

-- a text names site i, of some group or of none
abbrev pub NamesSite : ℕ → List ℕ → Type 0
NamesSite i text = (group : Option (List ℕ)) × (text ≡ site_text i group)

-- a text names no site of this number
abbrev pub NamesOther : ℕ → List ℕ → Type 0
NamesOther i text = (group : Option (List ℕ)) → text ≢ site_text i group

-- why a text is not this site's: it names another site, or this one with another group
abbrev pub IsForeign : ℕ → List ℕ → StoreOpenError → Type 0
IsForeign i text WrongSite = NamesOther i text
IsForeign i text WrongGroup = NamesSite i text
IsForeign i text BadStore = ⊥
IsForeign i text WrongLayout = ⊥
IsForeign i text StoreFault = ⊥
IsForeign i text Memory = ⊥
