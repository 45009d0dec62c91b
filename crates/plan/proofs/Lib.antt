mod Positions
