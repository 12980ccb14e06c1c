-- A text names a site exactly where its number is read off its front, and nothing or a blank stands behind it.
use Rattle.std.proofs.Common.{◌≡◌, ◌≢◌, ℕ, ◌<◌, ◌^◌, List, [], ◌∷◌, ◌++◌, decimal, Option, Some, None, sym, ap, subst, refl, ◌∙◌, append-nil, arith}
use Rattle.std.proofs.lemmas.Option.{none-some, some_pair_parts}
use Rattle.text_parts.specs.declared.unread.Unread.{Unread}
use Rattle.text_parts.specs.declared.unread.Unread.TheVariants.{Refused, Memory}
use Rattle.text_parts.specs.Readers.{NoDigit, number_at, Fails}
use Rattle.text_parts.proofs.NumberLaws.{number_takes, number_again}
use Rattle.merge_core.specs.Layout.{LayoutState}
use Rattle.store_rows.specs.Rows.{Stored}
use Rattle.store_content.specs.Content.{IsContent}
use Rattle.site_store.specs.declared.error.StoreOpenError.{StoreOpenError}
use Rattle.site_store.specs.declared.error.StoreOpenError.TheVariants as opening
use Rattle.site_store.specs.SiteText.{IsApart, IsForeign, NamesSite, site_text}
use Rattle.site_store.specs.Opened.{IsCause}

-- what stands behind the number is the group's name behind a blank, or nothing
named_by : (i : ℕ) (text behind : List ℕ) → text ≡ decimal i ++ behind → IsApart behind → NamesSite i text
named_by i text [] is apart = (None, is ∙ append-nil (decimal i))
named_by i text (b ∷ bs) is apart = (Some bs, is ∙ ap (λ (x : ℕ). decimal i ++ (x ∷ bs)) apart)

pub names : (i m : ℕ) (text behind : List ℕ) → number_at text ≡ Some (m, behind) → m ≡ i → IsApart behind → NamesSite i text
names i m text behind read same apart =
    named_by i text behind (subst (λ (n : ℕ). text ≡ decimal n ++ behind) same (number_takes text m behind read).0) apart

-- such a text is read so
free : (behind : List ℕ) → IsApart behind → NoDigit behind
free [] apart = tt
free (b ∷ bs) apart = rw apart refl

reads : (i : ℕ) (text behind : List ℕ) → i < 2 ^ 64 → IsApart behind → text ≡ decimal i ++ behind → number_at text ≡ Some (i, behind)
reads i text behind small apart is = ap number_at is ∙ number_again i behind small (free behind apart)

pub is_read : (i : ℕ) (text : List ℕ) → i < 2 ^ 64 → NamesSite i text → (behind : List ℕ) × (IsApart behind × (number_at text ≡ Some (i, behind)))
is_read i text small (None, is) = ([], (tt, reads i text [] small tt (is ∙ sym (append-nil (decimal i)))))
is_read i text small (Some name, is) = (32 ∷ name, (refl, reads i text (32 ∷ name) small refl is))

-- a text that is not read names no site
pub unread : (e : Unread) (i : ℕ) (text : List ℕ) → i < 2 ^ 64 → e ≡ Refused → Fails e (number_at text) → NamesSite i text → ⊥
unread Refused i text small plain none is = let r = is_read i text small is in none-some (i, r.0) (sym none ∙ r.1.1)
unread Memory i text small plain none is = grind (arith, plain)

-- it names the site of its number alone, and has nothing or a blank behind it
pub parts : (i m : ℕ) (text behind : List ℕ) → i < 2 ^ 64 → number_at text ≡ Some (m, behind) → NamesSite i text → (m ≡ i) × IsApart behind
parts i m text behind small read is =
    let r = is_read i text small is in
    let p = some_pair_parts m i behind r.0 (sym read ∙ r.1.1) in
    (p.0, subst IsApart (sym p.1) r.1.0)

-- a content whose text is another's is refused for that
pub foreign_cause : (layout : LayoutState) (i : ℕ) (group : Option (List ℕ)) (it : Stored) (e : StoreOpenError) → IsContent it → it.site ≢ site_text i group → IsForeign i it.site e
    → IsCause layout i group it e × (e ≢ opening.StoreFault)
foreign_cause layout i group it opening.WrongSite whole other foreign = ((whole, foreign), λ is. absurd (cc))
foreign_cause layout i group it opening.WrongGroup whole other foreign = ((whole, (other, foreign)), λ is. absurd (cc))
foreign_cause layout i group it opening.BadStore whole other foreign = absurd foreign
foreign_cause layout i group it opening.WrongLayout whole other foreign = absurd foreign
foreign_cause layout i group it opening.StoreFault whole other foreign = absurd foreign
foreign_cause layout i group it opening.Memory whole other foreign = absurd foreign
