-- The nodes of a term that says that a column is 0 or more.
use Rattle.std.proofs.Common.{◌≡◌, ℕ, zero, suc, ◌≤◌, List, [], ◌∷◌, Option, Some, None, MatchOption, length, pos, slice_get, option_copied, sym, ap, subst, ◌∙◌, arith, refl}
use Rattle.std.specs.Borrow.{Bor}
use Rattle.std.proofs.lemmas.Option.{get_or_from_slice_get}
use Rattle.sqlite_value.specs.declared.value.Value.{Value}
use Rattle.sqlite_value.specs.declared.value.Value.TheVariants.{Null, Int}
use Rattle.sqlite_value.specs.declared.keys.Collation.TheVariants.{Binary as Bytewise}
use Rattle.sqlite_sql.specs.declared.ops.BinaryOp.{BinaryOp}
use Rattle.sqlite_sql.specs.declared.ops.BinaryOp.TheVariants.{Compare}
use Rattle.sqlite_sql.specs.declared.ops.CompareOp.TheVariants.{Ge}
use Rattle.sqlite_sql.specs.Term.{Term, lit, col, op2}
use Rattle.sqlite_schema.specs.declared.code.Op.{Op}
use Rattle.sqlite_schema.specs.declared.code.Op.TheVariants.{Literal, Column, Unary, Binary, Case}
use Rattle.sqlite_schema.specs.Code.{op_term, term_in, term_to}
use Rattle.store_schema.specs.Tables.{at_least_0}
use Rattle.own_schema.specs.Parts.{node_at}

-- the comparison
abbrev pub at_least : ℕ → ℕ → Op
at_least a b = Binary (Compare Ge Bytewise) a b

-- the node of a term of each kind
column_node : (below : ℕ → Term) (x : Op) (slot at : ℕ) → op_term below x ≡ col slot at → x ≡ Column slot at
column_node below (Literal v) slot at e = cc
column_node below (Column s a) slot at e = cc
column_node below (Unary op a) slot at e = cc
column_node below (Binary op a b) slot at e = cc
column_node below (Case t a b) slot at e = cc

literal_node : (below : ℕ → Term) (x : Op) (v : Value) → op_term below x ≡ lit v → x ≡ Literal v
literal_node below (Literal w) v e = cc
literal_node below (Column s a) v e = cc
literal_node below (Unary op a) v e = cc
literal_node below (Binary op a b) v e = cc
literal_node below (Case t a b) v e = cc

binary_node : (below : ℕ → Term) (x : Op) (op : BinaryOp) (t u : Term) → op_term below x ≡ op2 op t u → (a : ℕ) × (b : ℕ) × (x ≡ Binary op a b) × (below a ≡ t) × (below b ≡ u)
binary_node below (Literal w) op t u e = absurd (let clash : ⊥ = cc in clash)
binary_node below (Column s a) op t u e = absurd (let clash : ⊥ = cc in clash)
binary_node below (Unary o a) op t u e = absurd (let clash : ⊥ = cc in clash)
binary_node below (Binary o a b) op t u e = (a, b, cc, cc, cc)
binary_node below (Case c a b) op t u e = absurd (let clash : ⊥ = cc in clash)

-- two nodes or more are enough to read both sides
deep : (ops : List Op) (root : ℕ) → 2 ≤ length ops → (d : ℕ) × (term_in ops root ≡ op_term (term_to ops (suc d)) (node_at ops root))
deep [] root two = absurd (omega arith)
deep (x ∷ []) root two = absurd (omega arith)
deep (x ∷ y ∷ rest) root two = (length rest, refl)

pub is_term : (ops : List Op) (root a b place : ℕ) → 2 ≤ length ops → node_at ops root ≡ at_least a b → node_at ops a ≡ Column 1 place → node_at ops b ≡ Literal (Int (pos 0)) → term_in ops root ≡ at_least_0 place
is_term ops root a b place two at_root at_a at_b =
    let read = deep ops root two in
    let d = read.0 in
    read.1 ∙ (ap (λ (x : Op). op_term (term_to ops (suc d)) x) at_root ∙ (λ i. op2 (Compare Ge Bytewise) (op_term (term_to ops d) (at_a i)) (op_term (term_to ops d) (at_b i))))

-- the nodes of such a term
nodes_of : (ops : List Op) (root place : ℕ) → 2 ≤ length ops → term_in ops root ≡ at_least_0 place → (a : ℕ) × (b : ℕ) × (node_at ops root ≡ at_least a b) × (node_at ops a ≡ Column 1 place) × (node_at ops b ≡ Literal (Int (pos 0)))
nodes_of ops root place two e =
    let read = deep ops root two in
    let d = read.0 in
    let node = binary_node (term_to ops (suc d)) (node_at ops root) (Compare Ge Bytewise) (col 1 place) (lit (Int (pos 0))) (sym read.1 ∙ e) in
    (node.0, node.1, node.2, column_node (term_to ops d) (node_at ops node.0) 1 place node.3, literal_node (term_to ops d) (node_at ops node.1) (Int (pos 0)) node.4)

-- both sides, where the comparison is at the root
pub sides_at_root : (ops : List Op) (root a b place : ℕ) → 2 ≤ length ops → node_at ops root ≡ at_least a b → term_in ops root ≡ at_least_0 place → (node_at ops a ≡ Column 1 place) × (node_at ops b ≡ Literal (Int (pos 0)))
sides_at_root ops root a b place two at_root e =
    let it = nodes_of ops root place two e in
    let same : at_least a b ≡ at_least it.0 it.1 = sym at_root ∙ it.2 in
    let same_a : it.0 ≡ a = cc in
    let same_b : it.1 ≡ b = cc in
    (subst (λ (n : ℕ). node_at ops n ≡ Column 1 place) same_a it.3, subst (λ (n : ℕ). node_at ops n ≡ Literal (Int (pos 0))) same_b it.4)

-- where a look-up finds none, the node is NULL
node_missing : (ops : List Op) (at : ℕ) → slice_get ops at ≡ None → node_at ops at ≡ Literal Null
node_missing [] at none = refl
node_missing (x ∷ ops) zero none = absurd (let clash : ⊥ = cc in clash)
node_missing (x ∷ ops) (suc at) none = node_missing ops at none

-- what a look-up finds is the node, or there is none
pub node_found : (ops : List Op) (at : ℕ) (r : Option (Bor Op)) → option_copied r ≡ slice_get ops at → MatchOption r (node_at ops at ≡ Literal Null) (λ op. node_at ops at ≡ op.now)
node_found ops at None found = node_missing ops at (sym found)
node_found ops at (Some op) found = get_or_from_slice_get ops at op.now (Literal Null) (sym found)
