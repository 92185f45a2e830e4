pub mod PiecesOfAccesses
