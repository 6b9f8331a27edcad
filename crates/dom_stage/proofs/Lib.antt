pub mod NodeMoves
