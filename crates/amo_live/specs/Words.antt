-- The words that a host draws, and those that its events bear.
use Rattle.std.specs.Prelude.{◌≡◌, ◌≢◌, ℕ, List, [], ◌∷◌, ◌++◌}
use Rattle.std.specs.List.{AllByRecursion}
use Rattle.amo_packet.specs.declared.packet.OwnedBody.{OwnedBody}
use Rattle.amo_packet.specs.declared.packet.OwnedBody.TheVariants.{NeedUid}
use Rattle.amo_core.specs.declared.act.Act.{Act}
use Rattle.amo_core.specs.declared.act.Act.TheVariants as act
use Rattle.amo_world.specs.declared.event.Event.{Event}
use Rattle.amo_book.specs.Pass.{PassState, mine}

-- what was drawn before still is
abbrev pub StaysDrawn : (ℕ → Type 0) → (ℕ → Type 0) → Type 0
StaysDrawn before after = (word : ℕ) → before word → after word

-- a word was drawn that was not drawn before, and is not 0, which stands for none
pub record IsNew (before after : ℕ → Type 0) (word : ℕ) : Type 0 where
  pub some : word ≢ 0
  pub out : ¬ (before word)
  pub in_use : after word

-- the word that an act bears, and under which a handshake may go on: a start's, and that of a needuid's delivery
abbrev pub word_of_delivery : OwnedBody → ℕ → List ℕ
word_of_delivery (NeedUid jd) word = word ∷ []
word_of_delivery _ word = []

abbrev pub word_by : Act → List ℕ
word_by (act.Start word) = word ∷ []
word_by (act.Batch word) = word ∷ []
word_by (act.Deliver p word) = word_of_delivery p.body word
word_by _ = []

-- the words that events bear, newest first
abbrev pub words_in : List Event → List ℕ
words_in [] = []
words_in (e ∷ past) = word_by e.act ++ words_in past

-- each of the words was drawn since, and none comes twice
abbrev pub AreNew : (ℕ → Type 0) → (ℕ → Type 0) → List ℕ → Type 0
AreNew before after [] = Unit {0}
AreNew before after (word ∷ words) = IsNew before after word × AllByRecursion (λ w. w ≢ word) words × AreNew before after words

-- Between two states of a host's words and of a pass each event bore a word that was drawn meanwhile, or none; no two of them bore one.
pub record BearsNew {W : Type 0} (drawn : W → ℕ → Type 0) (s t : W) (v w : PassState) : Type 0 where
  pub words : List ℕ
  pub borne : words_in (mine w) ≡ words ++ words_in (mine v)
  pub new : AreNew (drawn s) (drawn t) words
  pub stays : StaysDrawn (drawn s) (drawn t)
