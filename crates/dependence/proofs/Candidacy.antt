-- What is found by places and by variables are candidates for what a new event follows.
use Rattle.std.proofs.Common.{◌≡◌, ◌⊎◌, ◌↔◌, inl, inr, ℕ, suc, ◌+◌, ◌^◌, ◌<◌, ◌≤◌, List, [], ◌∷◌, ◌++◌, Bool, true, false, not, cond, Some, None, IsTrue, length, take, get_or, refl, sym, ◌∙◌, subst, arith}
use Rattle.std.specs.Prelude.{slice_get}
use Rattle.std.proofs.lemmas.Bool.{cases_lt}
use Rattle.address.specs.Places.{Before, Apart}
use Rattle.address.proofs.public.Places.{before-asymmetric, before-not-apart, apart-symmetric}
use Rattle.syntax.specs.Lists.{In}
use Rattle.dependence.specs.LastEvents.{IsAt, Uses, LastUse, PutAt, LastBefore}
use Rattle.dependence.specs.declared.places.PlaceTable.{PlaceTable}
use Rattle.runs.specs.Dependence.{SomeBefore}
use Rattle.runs.specs.Events.{places}
use Rattle.runs.specs.Live.{Live, Rising, LiveAt, IsLive, DependsOn, same, later, LastWriter}
use Rattle.runs.specs.Moves.{Place}
use Rattle.runs.specs.declared.event.Event.{Event}
use Rattle.runs.proofs.public.Decisions.{last-writer?}
use Rattle.runs.proofs.public.Lists.{in-left, in-right, in-parts}
use Rattle.runs.proofs.public.Options.{none-some, some-injective}
use Rattle.runs.proofs.public.Tickets.{rising-in, rising-one}
use Rattle.dependence.specs.Behind.{ComesBehind}
use Rattle.dependence.specs.declared.accesses.NewEvent.{NewEvent}
use Rattle.dependence.specs.declared.tables.Tables.{Tables}
use Rattle.dependence.specs.internal.Found.{FoundByPlace, AccessesFound, FirstBehind, IsBefore, LeadsBefore, IsReadBefore, IsDirect, ReaderSince, WritesOneRead, UsesWritten, IsNewEvent}
use Rattle.dependence.specs.internal.Tabled.{IsTabled}
use Rattle.dependence.specs.internal.Tables.{Candidates}
use Rattle.dependence.proofs.public.Following.{follows-on}
use Rattle.dependence.proofs.public.ListPlaces.{in-at}
use Rattle.dependence.proofs.public.Tabling.{place-is, second-in, one-at, put-kept, put-only, read-next}

-- by the one address
pub places-one : (table : PlaceTable) (f : Event) (old new : List ℕ) → f.second ≡ None → LastBefore table f.first old new → FoundByPlace table (places f) old new
places-one table f old new none h = record {
  kept = h.kept;
  sound = λ t i. elim (h.sound t i) [ inl k ↦ inl k | inr k ↦ inr (k.0, f.first, k.1, inl refl, k.2) ];
  complete = λ a b t at ib before. elim (place-is f b ib) [
    | inl is ↦ h.complete a t at (subst (λ (x : Place). Before a x) is before)
    | inr is ↦ none-some b (sym none ∙ is)
  ];
}

-- by both addresses, of which the first is put before the second is looked for
pub places-two : (old mid : PlaceTable) (n : ℕ) (f : Event) (p : Place) (ts ms us : List ℕ) → ((a : Place) (t : ℕ) → In a (places f) → IsAt old a t → ⊥) →
    ((z : Place) → f.second ≡ Some z → Apart f.first z) → PutAt old f.first n mid → f.second ≡ Some p → LastBefore old f.first ts ms → LastBefore mid p ms us →
    FoundByPlace old (places f) ts us
places-two old mid n f p ts ms us free own put second h k = record {
  kept = λ t i. k.kept t (h.kept t i);
  sound = λ t i. elim (k.sound t i) [
    | inl j ↦ elim (h.sound t j) [ inl m ↦ inl m | inr m ↦ inr (m.0, f.first, m.1, inl refl, m.2) ]
    | inr m ↦ elim (put-only old mid f.first n put m.0 t m.1) [
      | inl there ↦ inr (m.0, p, there, second-in f p second, m.2)
      | inr new ↦ absurd (before-not-apart f.first p (subst (λ (x : Place). Before x p) new.0 m.2) (own p second))
    ]
  ];
  complete = λ a b t at ib before. elim (place-is f b ib) [
    | inl is ↦ let c = h.complete a t at (subst (λ (x : Place). Before a x) is before) in (c.0, c.1, c.2, k.kept c.1 c.3, c.4)
    | inr is ↦
        let c =
        k.complete a t (put-kept old mid f.first n put (λ u i. free f.first u (inl refl) i) a t at)
        (subst (λ (x : Place). Before a x) (some-injective b p (sym is ∙ second)) before) in
        elim (put-only old mid f.first n put c.0 c.1 c.2) [
          | inl there ↦ (c.0, c.1, there, c.3, c.4)
          | inr new ↦ elim c.4 [
            | inl one ↦ absurd (free f.first t (inl refl) (subst (λ (x : Place). IsAt old x t) (one ∙ new.0) at))
            | inr low ↦
                let d = h.complete a t at (subst (λ (x : Place). Before a x) new.0 low) in
                (d.0, d.1, d.2, k.kept d.1 d.3, d.4)
          ]
        ]
  ];
}

-- nothing is to be found
pub found-none : (l : Live) (f : Event) (P : ℕ → Type 0) (found : List ℕ) → ((t : ℕ) (e : Event) → LiveAt l t e → P t → ⊥) → AccessesFound l f P found found
found-none l f P found none = record { kept = λ t i. i; sound = λ t i. inl i; complete = λ t e i p. absurd (none t e i p) }

-- all that is to be found is there
pub found-there : (l : Live) (f : Event) (P : ℕ → Type 0) (found : List ℕ) → ((t : ℕ) (e : Event) → LiveAt l t e → P t → In t found) → AccessesFound l f P found found
found-there l f P found there = record { kept = λ t i. i; sound = λ t i. inl i; complete = λ t e i p. inr (there t e i p) }

-- what is found, and then more
pub found-then : (l : Live) (f : Event) (P Q : ℕ → Type 0) (old mid new : List ℕ) → AccessesFound l f P old mid → AccessesFound l f Q mid new →
    AccessesFound l f (λ t. P t ⊎ Q t) old new
found-then l f P Q old mid new h k = record {
  kept = λ t i. k.kept t (h.kept t i);
  sound = λ t i. elim (k.sound t i) [ inl j ↦ h.sound t j | inr d ↦ inr d ];
  complete = λ t e i p. elim p [
    | inl a ↦ elim (h.complete t e i a) [ inl b ↦ inl b | inr b ↦ inr (k.kept t b) ]
    | inr a ↦ k.complete t e i a
  ];
}

-- what is found of fewer
pub found-some : (l : Live) (f : Event) (P Q : ℕ → Type 0) (old new : List ℕ) → ((t : ℕ) (e : Event) → LiveAt l t e → Q t → P t) → AccessesFound l f P old new →
    AccessesFound l f Q old new
found-some l f P Q old new all h = record { kept = h.kept; sound = h.sound; complete = λ t e i q. h.complete t e i (all t e i q) }

-- one event, unless it leads to one with a place before one of f
pub found-one : (l : Live) (f : Event) (t : ℕ) (b : Bool) (old new : List ℕ) → (IsTrue b → LeadsBefore l f t) → IsDirect l f t →
    new ≡ cond (not b) (old ++ t ∷ []) old → AccessesFound l f (λ u. u ≡ t) old new
found-one l f t b old new leads direct now = pick b refl now
  where
    pick : (c : Bool) → b ≡ c → new ≡ cond (not c) (old ++ t ∷ []) old → AccessesFound l f (λ u. u ≡ t) old new
    pick true on is = subst (λ (k : List ℕ). AccessesFound l f (λ u. u ≡ t) old k) (sym is) (record {
      kept = λ u i. i;
      sound = λ u i. inl i;
      complete = λ u g i p. inl (subst (λ (v : ℕ). LeadsBefore l f v) (sym p) (leads on));
    })
    pick false off is = subst (λ (k : List ℕ). AccessesFound l f (λ u. u ≡ t) old k) (sym is) (record {
      kept = λ u i. in-left u old (t ∷ []) i;
      sound = λ u i. elim (in-parts u old (t ∷ []) i) [
        | inl a ↦ inl a
        | inr (inl a) ↦ inr (subst (λ (v : ℕ). IsDirect l f v) (sym a) direct)
        | inr (inr a) ↦ absurd a
      ];
      complete = λ u g i p. inr (in-right u old (t ∷ []) (inl p));
    })

-- a place of the event itself is before one of f
pub leads-itself : (l : Live) (f : Event) (t : ℕ) → IsBefore l f t → LeadsBefore l f t
leads-itself l f t before = (t, before, same)

-- one that reads what the event wrote has a place before one of f
pub leads-reader : (l : Live) (f : Event) (x w below : ℕ) → LastWriter l x w → IsReadBefore l f x w below → LeadsBefore l f w
leads-reader l f x w below last read =
    (read.ticket, (read.event, read.live, read.before), later last.event read.event same last.live read.live read.behind (inr (inr (inl (x, last.writes, inl read.reads)))))

-- whether the live event at an index has a place before one of f
pub one-before : (new : NewEvent) → IsNewEvent new → (t : ℕ) (e : Event) (b : Bool) → LiveAt new.list.now.live t e → IsTrue b ↔ SomeBefore e new.event.now →
    IsTrue b ↔ IsBefore new.list.now.live new.event.now t
one-before new h t e b here told = (
  (λ on. (e, here, told.0 on)),
  (λ k. told.1 (subst (λ (g : Event). SomeBefore g new.event.now) (rising-one 0 new.ticket new.list.now.live t k.0 e h.rising k.1 here) k.2)),
)

-- behind no tickets
pub behind-none : FirstBehind [] 0
behind-none = record { behind = λ t i. absurd i; near = inl refl }

-- behind the tickets that are passed and the next one
pub behind-next : (ts : List ℕ) (index old end : ℕ) → index < length ts → old ≤ end → (suc old ≡ 2 ^ 64 → suc end ≡ 2 ^ 64) →
    (get_or ts index 0 < end) ⊎ (suc end ≡ 2 ^ 64) → (end ≡ old) ⊎ (end ≤ suc (get_or ts index 0)) → FirstBehind (take index ts) old →
    FirstBehind (take (index + 1) ts) end
behind-next ts index old end more low full next near passed =
    subst (λ (k : List ℕ). FirstBehind k end) (sym (read-next ts index more)) (record { behind = all; near = some })
  where
    all : (t : ℕ) → In t (take index ts ++ get_or ts index 0 ∷ []) → (t < end) ⊎ (suc end ≡ 2 ^ 64)
    all t i = elim (in-parts t (take index ts) (get_or ts index 0 ∷ []) i) [
      | inl before ↦ elim (passed.behind t before) [
        | inl less ↦ inl (omega arith)
        | inr last ↦ inr (full last)
      ]
      | inr (inl is) ↦ subst (λ (k : ℕ). (k < end) ⊎ (suc end ≡ 2 ^ 64)) (sym is) next
      | inr (inr none) ↦ absurd none
    ]

    some : (end ≡ 0) ⊎ ((t : ℕ) × In t (take index ts ++ get_or ts index 0 ∷ []) × (end ≤ suc t))
    some = elim near [
      | inl stays ↦ elim passed.near [
        | inl none ↦ inl (stays ∙ none)
        | inr one ↦ inr (one.0, in-left one.0 (take index ts) (get_or ts index 0 ∷ []) one.1, subst (λ (k : ℕ). k ≤ suc one.0) (sym stays) one.2)
      ]
      | inr within ↦ inr (get_or ts index 0, in-right (get_or ts index 0) (take index ts) (get_or ts index 0 ∷ []) (inl refl), within)
    ]

-- from the ticket `end` on and below `below` no event that reads x has a place before one of f
abbrev pub NoneBetween : NewEvent → ℕ → ℕ → ℕ → Type 0
NoneBetween new x end below = (u : ℕ) (g : Event) → LiveAt new.list.now.live u g → In x g.read → end ≤ u → u < below → SomeBefore g new.event.now → ⊥

pub none-yet : (new : NewEvent) (x below : ℕ) → NoneBetween new x below below
none-yet new x below u g i reads high low before = omega arith

module _ (new : NewEvent) (h : IsNewEvent new) (x : ℕ) where
  abbrev pub l : Live
  l = new.list.now.live

  below-new : (t : ℕ) (e : Event) → LiveAt l t e → t < new.ticket
  below-new t e i = (rising-in 0 new.ticket l t e h.rising i).1

  -- the last use in the table of writers is the last writer
  pub last-write : (w : ℕ) → LastUse new.tables.now.writers x new.ticket w → LastWriter l x w
  last-write w last =
      let at = (h.tables.writers x w).0 last.uses in
      record {
        event = at.0;
        live = at.1;
        writes = at.2;
        last = λ u f i writes. last.last u ((h.tables.writers x u).1 (f, i, writes)) (below-new u f i);
      }

  pub writer-is : (w t : ℕ) → LastUse new.tables.now.writers x new.ticket w → LastWriter l x t → t ≡ w
  writer-is w t last other =
      let this = last-write w last in
      let up : t ≤ w = this.last t other.event other.live other.writes in
      let down : w ≤ t = other.last w this.event this.live this.writes in
      omega arith

  pub no-writer : ((t : ℕ) → Uses new.tables.now.writers x t → t < new.ticket → ⊥) → (t : ℕ) → LastWriter l x t → ⊥
  no-writer none t w = none t ((h.tables.writers x t).1 (w.event, w.live, w.writes)) (below-new t w.event w.live)

  -- f depends directly on the last writer of a variable that it uses
  pub writer-direct : (w : ℕ) → LastUse new.tables.now.writers x new.ticket w → In x new.event.now.read ⊎ (new.event.now.written ≡ Some x) → IsDirect l new.event.now w
  writer-direct w last uses =
      let this = last-write w last in
      (this.event, this.live, inr (inr (inl (x, this.writes, uses))))

  use-of : (u : ℕ) (g : Event) → LiveAt l u g → In x g.read → Uses new.tables.now.readers x u
  use-of u g i reads = (h.tables.readers x u).1 (g, i, reads)

  pub reader-live : (r below : ℕ) → LastUse new.tables.now.readers x below r → IsLive l r
  reader-live r below last = let at = (h.tables.readers x r).0 last.uses in (at.0, at.1)

  -- nor from the last reader on, where that one has none
  pub none-from : (r end below : ℕ) → LastUse new.tables.now.readers x end r → NoneBetween new x end below → (IsBefore l new.event.now r → ⊥) → NoneBetween new x r below
  none-from r end below last none not_one u g i reads high low before = elim (cases_lt u end) [
    | inl less ↦
        let up : u ≤ r = last.last u (use-of u g i reads) less in
        let is : u ≡ r = omega arith in
        not_one (subst (λ (v : ℕ). IsBefore l new.event.now v) is (g, i, before))
    | inr far ↦ none u g i reads far low before
  ]

  pub none-behind : (r end below w : ℕ) → LastUse new.tables.now.readers x end r → NoneBetween new x end below → r ≤ w → IsReadBefore l new.event.now x w below → ⊥
  none-behind r end below w last none le read = elim (cases_lt read.ticket end) [
    | inl less ↦
        let up : read.ticket ≤ r = last.last read.ticket (use-of read.ticket read.event read.live read.reads) less in
        let over : w < read.ticket = read.behind in
        omega arith
    | inr far ↦ none read.ticket read.event read.live read.reads far read.within read.before
  ]

  pub none-left : (end below w : ℕ) → ((t : ℕ) → Uses new.tables.now.readers x t → t < end → ⊥) → NoneBetween new x end below → IsReadBefore l new.event.now x w below → ⊥
  none-left end below w out none read = elim (cases_lt read.ticket end) [
    | inl less ↦ out read.ticket (use-of read.ticket read.event read.live read.reads) less
    | inr far ↦ none read.ticket read.event read.live read.reads far read.within read.before
  ]

  pub read-before : (r end below w : ℕ) → LastUse new.tables.now.readers x end r → end ≤ below → w < r → IsBefore l new.event.now r → IsReadBefore l new.event.now x w below
  read-before r end below w last low over one =
      let at = (h.tables.readers x r).0 last.uses in
      let less : r < end = last.less in
      record {
        ticket = r;
        event = at.0;
        live = at.1;
        reads = at.2;
        behind = over;
        within = omega arith;
        before = subst (λ (g : Event). SomeBefore g new.event.now) (rising-one 0 new.ticket l r one.0 at.0 h.rising one.1 at.1) one.2;
      }

  -- from which ticket on events are behind the last writer
  pub from-last : (w : ℕ) → LastUse new.tables.now.writers x new.ticket w → (t : ℕ) → (w ≤ t) ↔ ((v : ℕ) → LastWriter l x v → v ≤ t)
  from-last w last t = (
    (λ le v other. let is : v ≡ w = writer-is w v last other in omega arith),
    (λ all. all w (last-write w last)),
  )

  pub from-first : ((t : ℕ) → Uses new.tables.now.writers x t → t < new.ticket → ⊥) → (t : ℕ) → (0 ≤ t) ↔ ((v : ℕ) → LastWriter l x v → v ≤ t)
  from-first none t = ((λ le v other. absurd (no-writer none v other)), (λ all. omega arith))

  -- the readers from there on
  pub reader-found : (from : ℕ) (ts : List ℕ) → ((t : ℕ) → (from ≤ t) ↔ ((v : ℕ) → LastWriter l x v → v ≤ t)) →
      ((t : ℕ) → In t ts ↔ (Uses new.tables.now.readers x t × (from ≤ t) × (t < new.ticket))) → (t : ℕ) → ReaderSince l x t → In t ts
  reader-found from ts since between t r =
      (between t).1 ((h.tables.readers x t).1 (r.event, r.live, r.reads), (since t).1 r.last, below-new t r.event r.live)

  pub reader-direct : (from : ℕ) (ts : List ℕ) → new.event.now.written ≡ Some x →
      ((t : ℕ) → In t ts ↔ (Uses new.tables.now.readers x t × (from ≤ t) × (t < new.ticket))) → (t : ℕ) → In t ts → IsDirect l new.event.now t
  reader-direct from ts writes between t i =
      let k = (between t).0 i in
      let at = (h.tables.readers x t).0 k.0 in
      (at.0, at.1, inr (inr (inr (x, writes, inl at.2))))

-- the last writer of one more variable
pub writers-next : (l : Live) (f : Event) (xs ys : List ℕ) (y : ℕ) (old mid new : List ℕ) → ys ≡ xs ++ y ∷ [] → AccessesFound l f (WritesOneRead l xs) old mid →
    AccessesFound l f (LastWriter l y) mid new → AccessesFound l f (WritesOneRead l ys) old new
writers-next l f xs ys y old mid new next h k =
    found-some l f (λ t. WritesOneRead l xs t ⊎ LastWriter l y t) (WritesOneRead l ys) old new
    (λ t e i p. elim (in-parts p.0 xs (y ∷ []) (subst (λ (zs : List ℕ). In p.0 zs) next p.1)) [
      | inl a ↦ inl (p.0, a, p.2)
      | inr (inl a) ↦ inr (subst (λ (z : ℕ). LastWriter l z t) a p.2)
      | inr (inr a) ↦ absurd a
    ])
    (found-then l f (WritesOneRead l xs) (LastWriter l y) old mid new h k)

-- the last writer of the variable that is written, and those that read it since
pub write-found : (l : Live) (f : Event) (x : ℕ) (old mid new : List ℕ) → f.written ≡ Some x → AccessesFound l f (LastWriter l x) old mid →
    AccessesFound l f (ReaderSince l x) mid new → AccessesFound l f (UsesWritten l f) old new
write-found l f x old mid new is h k =
    found-some l f (λ t. LastWriter l x t ⊎ ReaderSince l x t) (UsesWritten l f) old new
    (λ t e i p. let one : p.0 ≡ x = some-injective p.0 x (sym p.1 ∙ is) in
    subst (λ (z : ℕ). LastWriter l z t ⊎ ReaderSince l z t) one p.2)
    (found-then l f (LastWriter l x) (ReaderSince l x) old mid new h k)

module _ (l : Live) (n : ℕ) (f : Event) (tables : Tables) (r : Rising 0 l n) (h : IsTabled l tables) (behind : ComesBehind l f) (mid cs : List ℕ)
    (by_place : FoundByPlace tables.places (places f) [] mid)
    (by_variable : AccessesFound l f (λ t. WritesOneRead l f.read t ⊎ UsesWritten l f t) mid cs) where
  -- on the event of ticket t one of cs depends
  abbrev Leads : ℕ → Type 0
  Leads t = (c : ℕ) × In c cs × DependsOn l t c

  -- an event with an address before one of another does not come after it
  before-depends : (t u : ℕ) (e g : Event) (a c : Place) → LiveAt l t e → LiveAt l u g → In a (places e) → In c (places g) → Before a c → DependsOn l t u
  before-depends t u e g a c i j ia jc before = elim (cases_lt t u) [
    | inl less ↦ later e g same i j less (inl (a, c, ia, jc, before))
    | inr high ↦ elim (cases_lt u t) [
      | inl more ↦ elim (h.placed.between u t g e c a j i more jc ia) [
        | inl back ↦ absurd (before-asymmetric a c before back)
        | inr apart ↦ absurd (before-not-apart a c before (apart-symmetric c a apart))
      ]
      | inr equal ↦ let is : u ≡ t = omega arith in subst (λ (v : ℕ). DependsOn l t v) (sym is) same
    ]
  ]

  leads-before : (t : ℕ) (e : Event) → LiveAt l t e → SomeBefore e f → Leads t
  leads-before t e i (a, b, ia, ib, before) =
      let found = by_place.complete a b t ((h.tables.places a t).1 (e, i, ia)) ib before in
      let c : Place = found.0 in
      let u : ℕ = found.1 in
      let g = (h.tables.places c u).0 found.2 in (
        u,
        by_variable.kept u found.3,
        elim found.4 [
          | inl is ↦
              let one : t ≡ u = one-at tables.places c t u (subst (λ (x : Place). IsAt tables.places x t) is ((h.tables.places a t).1 (e, i, ia))) found.2 in
              subst (λ (v : ℕ). DependsOn l t v) one same
          | inr up ↦ before-depends t u e g.0 a c i g.1 ia g.2 up
        ],
      )

  leads-through : (t w : ℕ) → DependsOn l t w → Leads w → Leads t
  leads-through t w on k = (k.0, k.1, follows-on l t w k.0 on k.2)

  leads-access : (t : ℕ) (e : Event) → LiveAt l t e → WritesOneRead l f.read t ⊎ UsesWritten l f t → Leads t
  leads-access t e i p = elim (by_variable.complete t e i p) [
    | inl k ↦ leads-through t k.0 k.2 (leads-before k.0 k.1.0 k.1.1 k.1.2)
    | inr inside ↦ (t, inside, same)
  ]

  -- a writer of a variable that f reads or writes
  leads-write : (t : ℕ) (e : Event) (x : ℕ) → LiveAt l t e → e.written ≡ Some x → In x f.read ⊎ (f.written ≡ Some x) → Leads t
  leads-write t e x i writes uses = elim (last-writer? 0 n l x r) [
    | inl found ↦
        let w : ℕ = found.0 in
        let last = found.1 in
        let le : t ≤ w = last.last t e i writes in
        let on : DependsOn l t w = elim (cases_lt t w) [
          | inl less ↦ later e last.event same i last.live less (inr (inr (inl (x, writes, inr last.writes))))
          | inr high ↦ let is : t ≡ w = omega arith in subst (λ (v : ℕ). DependsOn l t v) is same
        ] in
        leads-through t w on (leads-access w last.event last.live (elim uses [ inl read ↦ inl (x, read, last) | inr written ↦ inr (x, written, inl last) ]))
    | inr none ↦ absurd (none t e i writes)
  ]

  -- a reader of the variable that f writes
  leads-read : (t : ℕ) (e : Event) (x : ℕ) → LiveAt l t e → In x e.read → f.written ≡ Some x → Leads t
  leads-read t e x i reads written = elim (last-writer? 0 n l x r) [
    | inl found ↦
        let w : ℕ = found.0 in
        let last = found.1 in
        elim (cases_lt t w) [
          | inl less ↦
              leads-through t w (later e last.event same i last.live less (inr (inr (inr (x, last.writes, inl reads)))))
              (leads-access w last.event last.live (inr (x, written, inl last)))
          | inr high ↦ leads-access t e i (inr (
            x,
            written,
            inr (record {
              event = e;
              live = i;
              reads = reads;
              last = λ v other. let up : v ≤ w = last.last v other.event other.live other.writes in omega arith;
            }),
          ))
        ]
    | inr none ↦ leads-access t e i (inr (
      x,
      written,
      inr (record {
        event = e;
        live = i;
        reads = reads;
        last = λ v other. absurd (none v other.event other.live other.writes);
      }),
    ))
  ]

  pub candidates-found : Candidates l f cs
  candidates-found = record {
    sound = λ t i. elim (by_variable.sound t i) [
      | inl j ↦ elim (by_place.sound t j) [
        | inl none ↦ absurd none
        | inr k ↦ let e = (h.tables.places k.0 t).0 k.2 in (e.0, e.1, inl (k.0, k.1, e.2, k.3, k.4))
      ]
      | inr d ↦ d
    ];
    complete = λ t e i d. elim d [
      | inl before ↦ leads-before t e i before
      | inr (inl channel) ↦ leads-before t e i (behind.channel t e i channel)
      | inr (inr (inl w)) ↦ leads-write t e w.0 i w.1 w.2
      | inr (inr (inr w)) ↦ elim w.2 [
        | inl reads ↦ leads-read t e w.0 i reads w.1
        | inr writes ↦ leads-write t e w.0 i writes (inr w.1)
      ]
    ];
  }
