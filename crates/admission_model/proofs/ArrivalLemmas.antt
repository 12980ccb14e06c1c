-- The order of arrival, by removing and appending and by last places.
use Rattle.std.proofs.Common.{◌≡◌, ℕ, ◌+◌, ◌⊎◌, inl, inr, true, false, eqb, List, [], ◌∷◌, ◌++◌, map, refl, sym, ap, ◌∙◌, arith}
use Rattle.std.proofs.lemmas.Bool.{cases_Bool, cond-true, cond-false, ne_eqb}
use Rattle.std.proofs.lemmas.List.{append-nil, append_assoc}
use Rattle.admission_model.specs.declared.operation.Operation.{Operation}
use Rattle.admission_model.specs.declared.operation.Operation.TheVariants.{EnteredRead, AnnouncedWriter, EnteredWrite, LeftRecord, GaveSeats}
use Rattle.admission_model.specs.Account.{Account, Origin, Key, is_key, key_of, keys_without, occurs, arrivals, present, phase_of, sessions_of}
use Rattle.admission_model.specs.Order.{arrived, last_of_each, unnamed}
use Rattle.admission_model.proofs.SessionLemmas.{is_key-comm}

occurs-push : (r h : ℕ) (ks : List Key) (k : Key) → occurs r h (ks ++ k ∷ []) ≡ occurs r h ks + occurs r h (k ∷ [])
occurs-push r h [] k = omega arith
occurs-push r h (j ∷ ks) k = omega (arith, occurs-push r h ks k)

-- how often a key stands in a list to which another was added
pushed_same : (j k : Key) (ks : List Key) → is_key j.r j.h k.r k.h ≡ true → eqb (occurs j.r j.h (ks ++ k ∷ [])) 0 ≡ false
pushed_same j k ks e =
    let one : occurs j.r j.h (k ∷ []) ≡ 1 = omega (arith, cond-true {A = ℕ} (is_key j.r j.h k.r k.h) 1 0 e) in
    ne_eqb (occurs j.r j.h (ks ++ k ∷ [])) 0 (λ none. absurd (omega (arith, occurs-push j.r j.h ks k)))

pushed_other : (j k : Key) (ks : List Key) → is_key j.r j.h k.r k.h ≡ false → eqb (occurs j.r j.h (ks ++ k ∷ [])) 0 ≡ eqb (occurs j.r j.h ks) 0
pushed_other j k ks e =
    let none : occurs j.r j.h (k ∷ []) ≡ 0 = omega (arith, cond-false {A = ℕ} (is_key j.r j.h k.r k.h) 1 0 e) in
    let same : occurs j.r j.h (ks ++ k ∷ []) ≡ occurs j.r j.h ks = omega (arith, occurs-push j.r j.h ks k) in
    ap (λ n. eqb n 0) same

-- who arrives is named from then on
unnamed-push : (names : List Key) (k : Key) (ks : List Key) → unnamed (names ++ k ∷ []) ks ≡ keys_without k.r k.h (unnamed names ks)
unnamed-push names k [] = refl
unnamed-push names k (j ∷ ks) = at (cases_Bool (is_key j.r j.h k.r k.h)) (cases_Bool (eqb (occurs j.r j.h names) 0)) (unnamed-push names k ks)
  where
    at : (is_key j.r j.h k.r k.h ≡ true) ⊎ (is_key j.r j.h k.r k.h ≡ false) → (eqb (occurs j.r j.h names) 0 ≡ true) ⊎ (eqb (occurs j.r j.h names) 0 ≡ false) → unnamed (names ++ k ∷ []) ks ≡ keys_without k.r k.h (unnamed names ks) → unnamed (names ++ k ∷ []) (j ∷ ks) ≡ keys_without k.r k.h (unnamed names (j ∷ ks))
    at (inl e) (inl free) rest =
        cond-false (eqb (occurs j.r j.h (names ++ k ∷ [])) 0) (j ∷ unnamed (names ++ k ∷ []) ks) (unnamed (names ++ k ∷ []) ks) (pushed_same j k names e)
        ∙ (rest
        ∙ (sym (cond-true (is_key k.r k.h j.r j.h) (keys_without k.r k.h (unnamed names ks)) (j ∷ keys_without k.r k.h (unnamed names ks)) (sym (is_key-comm j.r j.h k.r k.h) ∙ e))
        ∙ sym (ap (keys_without k.r k.h) (cond-true (eqb (occurs j.r j.h names) 0) (j ∷ unnamed names ks) (unnamed names ks) free))))
    at (inl e) (inr taken) rest =
        cond-false (eqb (occurs j.r j.h (names ++ k ∷ [])) 0) (j ∷ unnamed (names ++ k ∷ []) ks) (unnamed (names ++ k ∷ []) ks) (pushed_same j k names e)
        ∙ (rest ∙ sym (ap (keys_without k.r k.h) (cond-false (eqb (occurs j.r j.h names) 0) (j ∷ unnamed names ks) (unnamed names ks) taken)))
    at (inr e) (inl free) rest =
        cond-true (eqb (occurs j.r j.h (names ++ k ∷ [])) 0) (j ∷ unnamed (names ++ k ∷ []) ks) (unnamed (names ++ k ∷ []) ks) (pushed_other j k names e ∙ free)
        ∙ (ap (λ xs. j ∷ xs) rest
        ∙ (sym (cond-false (is_key k.r k.h j.r j.h) (keys_without k.r k.h (unnamed names ks)) (j ∷ keys_without k.r k.h (unnamed names ks)) (sym (is_key-comm j.r j.h k.r k.h) ∙ e))
        ∙ sym (ap (keys_without k.r k.h) (cond-true (eqb (occurs j.r j.h names) 0) (j ∷ unnamed names ks) (unnamed names ks) free))))
    at (inr e) (inr taken) rest =
        cond-false (eqb (occurs j.r j.h (names ++ k ∷ [])) 0) (j ∷ unnamed (names ++ k ∷ []) ks) (unnamed (names ++ k ∷ []) ks) (pushed_other j k names e ∙ taken)
        ∙ (rest ∙ sym (ap (keys_without k.r k.h) (cond-false (eqb (occurs j.r j.h names) 0) (j ∷ unnamed names ks) (unnamed names ks) taken)))

-- who arrives last stands last, and nowhere else
last_of_each-push : (ks : List Key) (k : Key) → last_of_each (ks ++ k ∷ []) ≡ keys_without k.r k.h (last_of_each ks) ++ k ∷ []
last_of_each-push [] k = refl
last_of_each-push (j ∷ ks) k = at (cases_Bool (is_key j.r j.h k.r k.h)) (cases_Bool (eqb (occurs j.r j.h ks) 0)) (last_of_each-push ks k)
  where
    at : (is_key j.r j.h k.r k.h ≡ true) ⊎ (is_key j.r j.h k.r k.h ≡ false) → (eqb (occurs j.r j.h ks) 0 ≡ true) ⊎ (eqb (occurs j.r j.h ks) 0 ≡ false) → last_of_each (ks ++ k ∷ []) ≡ keys_without k.r k.h (last_of_each ks) ++ k ∷ [] → last_of_each (j ∷ (ks ++ k ∷ [])) ≡ keys_without k.r k.h (last_of_each (j ∷ ks)) ++ k ∷ []
    at (inl e) (inl alone) rest =
        cond-false (eqb (occurs j.r j.h (ks ++ k ∷ [])) 0) (j ∷ last_of_each (ks ++ k ∷ [])) (last_of_each (ks ++ k ∷ [])) (pushed_same j k ks e)
        ∙ (rest ∙ sym (ap (λ xs. xs ++ k ∷ []) (ap (keys_without k.r k.h) (cond-true (eqb (occurs j.r j.h ks) 0) (j ∷ last_of_each ks) (last_of_each ks) alone)
        ∙ cond-true (is_key k.r k.h j.r j.h) (keys_without k.r k.h (last_of_each ks)) (j ∷ keys_without k.r k.h (last_of_each ks)) (sym (is_key-comm j.r j.h k.r k.h) ∙ e))))
    at (inl e) (inr again) rest =
        cond-false (eqb (occurs j.r j.h (ks ++ k ∷ [])) 0) (j ∷ last_of_each (ks ++ k ∷ [])) (last_of_each (ks ++ k ∷ [])) (pushed_same j k ks e)
        ∙ (rest ∙ sym (ap (λ xs. keys_without k.r k.h xs ++ k ∷ []) (cond-false (eqb (occurs j.r j.h ks) 0) (j ∷ last_of_each ks) (last_of_each ks) again)))
    at (inr e) (inl alone) rest =
        cond-true (eqb (occurs j.r j.h (ks ++ k ∷ [])) 0) (j ∷ last_of_each (ks ++ k ∷ [])) (last_of_each (ks ++ k ∷ [])) (pushed_other j k ks e ∙ alone)
        ∙ (ap (λ xs. j ∷ xs) rest ∙ sym (ap (λ xs. xs ++ k ∷ []) (ap (keys_without k.r k.h) (cond-true (eqb (occurs j.r j.h ks) 0) (j ∷ last_of_each ks) (last_of_each ks) alone)
        ∙ cond-false (is_key k.r k.h j.r j.h) (keys_without k.r k.h (last_of_each ks)) (j ∷ keys_without k.r k.h (last_of_each ks)) (sym (is_key-comm j.r j.h k.r k.h) ∙ e))))
    at (inr e) (inr again) rest =
        cond-false (eqb (occurs j.r j.h (ks ++ k ∷ [])) 0) (j ∷ last_of_each (ks ++ k ∷ [])) (last_of_each (ks ++ k ∷ [])) (pushed_other j k ks e ∙ again)
        ∙ (rest ∙ sym (ap (λ xs. keys_without k.r k.h xs ++ k ∷ []) (cond-false (eqb (occurs j.r j.h ks) 0) (j ∷ last_of_each ks) (last_of_each ks) again)))

without-append : (r h : ℕ) (xs ys : List Key) → keys_without r h (xs ++ ys) ≡ keys_without r h xs ++ keys_without r h ys
without-append r h [] ys = refl
without-append r h (x ∷ xs) ys = at (cases_Bool (is_key r h x.r x.h)) (without-append r h xs ys)
  where
    at : (is_key r h x.r x.h ≡ true) ⊎ (is_key r h x.r x.h ≡ false) → keys_without r h (xs ++ ys) ≡ keys_without r h xs ++ keys_without r h ys → keys_without r h (x ∷ (xs ++ ys)) ≡ keys_without r h (x ∷ xs) ++ keys_without r h ys
    at (inl e) rest =
        cond-true (is_key r h x.r x.h) (keys_without r h (xs ++ ys)) (x ∷ keys_without r h (xs ++ ys)) e
        ∙ (rest ∙ sym (ap (λ zs. zs ++ keys_without r h ys) (cond-true (is_key r h x.r x.h) (keys_without r h xs) (x ∷ keys_without r h xs) e)))
    at (inr e) rest =
        cond-false (is_key r h x.r x.h) (keys_without r h (xs ++ ys)) (x ∷ keys_without r h (xs ++ ys)) e
        ∙ (ap (λ zs. x ∷ zs) rest ∙ sym (ap (λ zs. zs ++ keys_without r h ys) (cond-false (is_key r h x.r x.h) (keys_without r h xs) (x ∷ keys_without r h xs) e)))

-- an arrival on top of others
arrives : (base : List Key) (before : List Key) (now : List Key) (k : Key) → now ≡ unnamed before base ++ last_of_each before → keys_without k.r k.h now ++ k ∷ [] ≡ unnamed (before ++ k ∷ []) base ++ last_of_each (before ++ k ∷ [])
arrives base before now k is =
    ap (λ xs. keys_without k.r k.h xs ++ k ∷ []) is
    ∙ (ap (λ xs. xs ++ k ∷ []) (without-append k.r k.h (unnamed before base) (last_of_each before))
    ∙ (append_assoc (keys_without k.r k.h (unnamed before base)) (keys_without k.r k.h (last_of_each before)) (k ∷ [])
    ∙ (ap (λ xs. xs ++ (keys_without k.r k.h (last_of_each before) ++ k ∷ [])) (sym (unnamed-push before k base))
    ∙ ap (λ xs. unnamed (before ++ k ∷ []) base ++ xs) (sym (last_of_each-push before k)))))

none_named : (ks : List Key) → unnamed [] ks ≡ ks
none_named [] = refl
none_named (k ∷ ks) = ap (λ xs. k ∷ xs) (none_named ks)

pub arrivals_by_last : (o : Origin) (done : List Operation) → arrivals o done ≡ unnamed (arrived done) (map key_of o.base.sessions) ++ last_of_each (arrived done)
arrivals_by_last o [] = sym (append-nil (unnamed [] (map key_of o.base.sessions)) ∙ none_named (map key_of o.base.sessions))
arrivals_by_last o (EnteredRead r h ∷ done) =
    arrives (map key_of o.base.sessions) (arrived done) (arrivals o done) (record { r = r; h = h }) (arrivals_by_last o done)
arrivals_by_last o (AnnouncedWriter r h ∷ done) =
    arrives (map key_of o.base.sessions) (arrived done) (arrivals o done) (record { r = r; h = h }) (arrivals_by_last o done)
arrivals_by_last o (EnteredWrite r h ∷ done) = arrivals_by_last o done
arrivals_by_last o (LeftRecord r h ∷ done) = arrivals_by_last o done
arrivals_by_last o (GaveSeats r to seats ∷ done) = arrivals_by_last o done

-- the sessions of a site, by who arrived last
pub sessions_by_last : (a : Account) → sessions_of a ≡ present (phase_of a) (unnamed (arrived a.done) (map key_of a.origin.base.sessions) ++ last_of_each (arrived a.done))
sessions_by_last a = ap (present (phase_of a)) (arrivals_by_last a.origin a.done)
