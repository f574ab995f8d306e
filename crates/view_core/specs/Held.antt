-- What a view keeps true of the vote messages that it holds.
use Rattle.std.specs.Prelude.{ℕ, ◌≤◌, ◌^◌, Bool, true, ◌&&◌, ◌==◌, nat_lt, List, length, IsTrue}
use Rattle.view_model.specs.Acts.{View}
use Rattle.std.specs.List.{list_all, IsDistinct}
use Rattle.ord_types.specs.Members.{is_in}
use Rattle.view_model.specs.Letters.{same_slot, config_in, view_in}
use Rattle.view_model.specs.declared.letter.Letter.{Letter}
use Rattle.view_model.specs.declared.letter.VoteMessage.{VoteMessage}
use Rattle.view_model.specs.declared.letter.VoteMessage.TheVariants as message_of
use Rattle.view_model.specs.Answers.{is_near}

-- a Commit's signature has a spelling; nothing is asked of the other messages
abbrev pub is_short : VoteMessage → Bool
is_short (message_of.PrePrepare m) = true
is_short (message_of.Prepare m) = true
is_short (message_of.Commit m) = nat_lt (length m.sig.bytes) (2 ^ 16)

abbrev pub are_short : List Letter → Bool
are_short letters = list_all (λ letter. is_short letter.message) letters

-- a vote message of one of these members, for this configuration and view, near the height, that is short
abbrev pub is_held : ℕ → List ℕ → ℕ → ℕ → Letter → Bool
is_held config members view height letter =
    is_short letter.message && is_in letter.from members && (config_in letter.message == config)
    && (view_in letter.message == view) && is_near height letter

-- one that this view may hold
abbrev pub may_hold : View → Letter → Bool
may_hold w letter = is_held w.config w.members w.view w.height letter

-- at most 31 members, and one message of each member and kind for each number: there is room for all
pub record IsHeld (config : ℕ) (members : List ℕ) (view height : ℕ) (kept : List Letter) : Type 0 where
  pub few : length members ≤ 31
  pub held : IsTrue (list_all (is_held config members view height) kept)
  pub distinct : IsDistinct same_slot kept

-- 31 members, three kinds, two numbers
abbrev pub most_kept : ℕ
most_kept = 186
