-- A schema is nothing, that of one version, or foreign.
use Rattle.std.proofs.Common.{◌≡◌, ◌↔◌, ℕ, length, refl, sym, ap, subst, ◌∙◌, arith}
use Rattle.sqlite_schema.specs.declared.schema.Schema.{Schema}
use Rattle.store_schema.specs.declared.Version.{Version}
use Rattle.store_schema.specs.declared.Version.TheVariants.{First, Second}
use Rattle.store_schema.specs.Tables.{AreBehind, behind, no_schema, others_in, schema_3, schema_4}
use Rattle.own_schema.specs.declared.Origin.{Origin}
use Rattle.own_schema.specs.declared.Origin.TheVariants.{Nothing, Store, Foreign}
use Rattle.own_schema.specs.Made.{IsForeign, IsMadeHere}

-- how many tables there are
abbrev pub table_count : Schema → ℕ
table_count schema = length schema.tables

-- the first version has nothing behind its tables
pub first_made : (s : Schema) → s ≡ schema_3 → IsMadeHere First s
first_made s e = (e, subst (λ (t : Schema). AreBehind (others_in t)) (sym e) (record { trees = tt; indexes = tt; references = tt }))

pub not_nothing : (v : Version) (s : Schema) → IsMadeHere v s → s ≡ no_schema → ⊥
not_nothing First s made none = let clash : table_count no_schema ≡ table_count schema_3 = ap table_count (sym none ∙ made.0) in omega (arith, clash)
not_nothing Second s made none = let clash : table_count no_schema ≡ table_count (behind schema_4 (others_in s)) = ap table_count (sym none ∙ made.0) in omega (arith, clash)

not_both : (s : Schema) → IsMadeHere First s → IsMadeHere Second s → ⊥
not_both s first second = let clash : table_count schema_3 ≡ table_count (behind schema_4 (others_in s)) = ap table_count (sym first.0 ∙ second.0) in omega (arith, clash)

-- a schema is that of one version only
pub one_version : (v w : Version) (s : Schema) → IsMadeHere v s → IsMadeHere w s → v ≡ w
one_version First First s made again = refl
one_version First Second s made again = absurd (not_both s made again)
one_version Second First s made again = absurd (not_both s again made)
one_version Second Second s made again = refl

-- what is said of an origin
pub record IsOrigin (s : Schema) (o : Origin) : Type 0 where
  pub as_nothing : (o ≡ Nothing) ↔ (s ≡ no_schema)
  pub as_store : (v : Version) → ((o ≡ Store v) ↔ IsMadeHere v s)
  pub as_foreign : (o ≡ Foreign) ↔ IsForeign s

pub is_nothing : (s : Schema) → s ≡ no_schema → IsOrigin s Nothing
is_nothing s none = record {
  as_nothing = (λ _. none, λ _. refl);
  as_store = λ v. (λ e. absurd (let clash : ⊥ = cc in clash), λ made. absurd (not_nothing v s made none));
  as_foreign = (λ e. absurd (let clash : ⊥ = cc in clash), λ foreign. absurd (foreign.some none));
}

pub is_store : (w : Version) (s : Schema) → IsMadeHere w s → IsOrigin s (Store w)
is_store w s made = record {
  as_nothing = (λ e. absurd (let clash : ⊥ = cc in clash), λ none. absurd (not_nothing w s made none));
  as_store = λ v. (λ e. let same : w ≡ v = cc in subst (λ (u : Version). IsMadeHere u s) same made, λ other. ap Store (one_version w v s made other));
  as_foreign = (λ e. absurd (let clash : ⊥ = cc in clash), λ foreign. absurd (foreign.elsewhere w made));
}

by_version : (s : Schema) → (s ≡ schema_3 → ⊥) → ¬ IsMadeHere Second s → (v : Version) → ¬ IsMadeHere v s
by_version s no_first no_second First = λ made. no_first made.0
by_version s no_first no_second Second = no_second

pub is_foreign : (s : Schema) → (s ≡ no_schema → ⊥) → (s ≡ schema_3 → ⊥) → ¬ IsMadeHere Second s → IsOrigin s Foreign
is_foreign s no_nothing no_first no_second = record {
  as_nothing = (λ e. absurd (let clash : ⊥ = cc in clash), λ none. absurd (no_nothing none));
  as_store = λ v. (λ e. absurd (let clash : ⊥ = cc in clash), λ made. absurd (by_version s no_first no_second v made));
  as_foreign = (λ _. record { some = no_nothing; elsewhere = by_version s no_first no_second }, λ _. refl);
}
